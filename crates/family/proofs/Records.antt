-- Placing the records of a sheet, record i: those before it are placed, and what is left gives the answer.
use Rattle.std.proofs.Common.{◌≡◌, ℕ, ◌+◌, ◌<◌, ◌≤◌, List, [], ◌∷◌, ◌++◌, length, get_or, take, drop, is_ok, IfOk, MatchResult, true, Some, None, Option, Ok, Err, Result, sym, refl, ap, ◌∙◌, subst, append_assoc, zero-add, add-one, arith}
use borrow.Author.Tests.{clash}
use Rattle.std.proofs.lemmas.Result.{IfOk-at_ok}
use Rattle.std.proofs.lemmas.List.{length-map, take_more, take_all, at_drop_more, at_drop_all}
use Rattle.std.proofs.lemmas.List.FromFn.{get_or-map-range_with_len, length-range_with_len}
use Rattle.std.specs.List.{range_with_len}
use Rattle.plane.specs.declared.position.Position.{Position}
use Rattle.plane.specs.Measures.{Heights}
use Rattle.plane.specs.Refusal.{Refusal}
use Rattle.sheet.specs.Layout.{count, master_record}
use Rattle.sheet.specs.declared.fault.RecordFault.{RecordFault}
use Rattle.sheet.specs.declared.section.Section.TheVariants.{Masters}
use Rattle.mesh.specs.Tree.{corner}
use Rattle.mesh.specs.declared.fault.PlaceFault.{PlaceFault}
use Rattle.mesh.specs.declared.tables.Tables.{Tables}
use Rattle.family.specs.declared.fault.BadRecord.{BadRecord}
use Rattle.family.specs.Calls.{Made, Stepped, place, placed, refused, unless_refused}
use Rattle.family.specs.Carried.{carried}
use Rattle.family.specs.Loading.{records, place_refused, at_record, or_else, records_refused}
use Rattle.family.specs.Outcomes.{place_outcome}
use Rattle.family.specs.Records.{TookAll}
use Rattle.family.specs.Refusals.{load_refusal}

-- The first i of the positions qs are placed.
pub record Taking (h : Heights) (before : Tables) (qs : List Position) (i : ℕ) (t : Tables) : Type 0 where
  pub so_far : (ps : List Position) → Made h ps before → Made h (ps ++ take i qs) t
  pub left : (ps : List Position) → Made h ps before →
      records_refused h (ps ++ take i qs) i (drop i qs) ≡ records_refused h ps 0 qs

-- An answer says whether the call was refused, and why.
unrefused : (n m : ℕ) (o : Option Refusal) → placed n ≡ unless_refused o (placed m) → o ≡ None
unrefused n m None e = refl
unrefused n m (Some r) e = absurd (let z : ◌≡◌ {A = ℕ} 0 1 = cc in omega arith)

refusal_is : (m : ℕ) (r : Refusal) (o : Option Refusal) → refused r ≡ unless_refused o (placed m) → o ≡ Some r
refusal_is m r None e = absurd (let z : ◌≡◌ {A = ℕ} 0 1 = cc in omega arith)
refusal_is m r (Some s) e = cc

module _ (h : Heights) (before : Tables) (qs : List Position) where
  module _ (i : ℕ) (t : Tables) (u : Taking h before qs i t) where
    -- what is left, from record i on
    here : (ps : List Position) → i < length qs →
        records_refused h ps i (drop i qs)
        ≡ or_else (at_record i (place_refused h ps (get_or qs i (corner 0 0))))
        (records_refused h (ps ++ get_or qs i (corner 0 0) ∷ []) (i + 1) (drop (i + 1) qs))
    here ps l = rw (at_drop_more (records_refused h ps i) qs i (corner 0 0) l) (rw add-one)

    pub taking_more : (r : Result ℕ PlaceFault) (t' : Tables) → i < length qs →
        Stepped h t (place (get_or qs i (corner 0 0))) (place_outcome r) t' → true ≡ is_ok r → Taking h before qs (i + 1) t'
    taking_more (Err e) t' l step ok = absurd (clash (sym ok))
    taking_more (Ok n) t' l step ok = record { so_far = so_far_then; left = left_then }
      where
        joined : (ps : List Position) → ps ++ take (i + 1) qs ≡ (ps ++ take i qs) ++ get_or qs i (corner 0 0) ∷ []
        joined ps = ap (λ xs. ps ++ xs) (take_more qs i (corner 0 0) l) ∙ sym (append_assoc ps (take i qs) _)

        so_far_then : (ps : List Position) → Made h ps before → Made h (ps ++ take (i + 1) qs) t'
        so_far_then ps g = rw (joined ps) (step.kept (ps ++ take i qs) (u.so_far ps g))

        left_then : (ps : List Position) → Made h ps before →
            records_refused h (ps ++ take (i + 1) qs) (i + 1) (drop (i + 1) qs) ≡ records_refused h ps 0 qs
        left_then ps g =
            let accepted = unrefused n _ _ (step.replied (ps ++ take i qs) (u.so_far ps g)) in
            let next = here (ps ++ take i qs) l in
            ap (λ xs. records_refused h xs (i + 1) (drop (i + 1) qs)) (joined ps)
            ∙ sym (rw accepted at next)
            ∙ u.left ps g

    pub taking_refused : (r : Result ℕ PlaceFault) (t' : Tables) (bad : BadRecord) → i < length qs →
        Stepped h t (place (get_or qs i (corner 0 0))) (place_outcome r) t' →
        MatchResult r (λ _. ⊥) (λ e. bad ≡ record { number = i; fault = e }) → (ps : List Position) → Made h ps before →
        records_refused h ps 0 qs ≡ Some (load_refusal (carried bad))
    taking_refused (Ok n) t' bad l step never ps g = absurd never
    taking_refused (Err e) t' bad l step is ps g =
        let why = refusal_is _ _ _ (step.replied (ps ++ take i qs) (u.so_far ps g)) in
        let next = here (ps ++ take i qs) l in
        sym (u.left ps g) ∙ (rw why at next) ∙ ap (λ b. Some (load_refusal (carried b))) (sym is)

    pub taking_all : length qs ≤ i → (ps : List Position) → Made h ps before →
        (records_refused h ps 0 qs ≡ None) × Made h (ps ++ qs) t
    taking_all l ps g = (
      sym (u.left ps g) ∙ at_drop_all (records_refused h (ps ++ take i qs) i) qs i l,
      subst (λ xs. Made h (ps ++ xs) t) (take_all i qs l) (u.so_far ps g),
    )

-- A refused record is the answer.
pub refused_one : {h : Heights} {before : Tables} {bytes : List ℕ} {o : Option Refusal} {r : Refusal} {after : Tables} →
    o ≡ Some r → ((ps : List Position) → Made h ps before → records_refused h ps 0 (records bytes) ≡ Some r) →
    TookAll h before bytes o after
refused_one e why =
    record { answered = λ ps g. why ps g ∙ sym e; all = λ f. absurd (let z : ◌≡◌ {A = ℕ} 0 1 = cc in omega arith) }

-- The records of a sheet, by number.
module _ (bytes : List ℕ) where
  pub records_length : length (records bytes) ≡ count bytes Masters
  records_length = length-map (range_with_len 0 (count bytes Masters)) (master_record bytes) ∙ length-range_with_len 0 (count bytes Masters)

  pub record_at : (k : ℕ) (d : Position) → k < count bytes Masters → get_or (records bytes) k d ≡ master_record bytes k
  record_at k d l = get_or-map-range_with_len (master_record bytes) 0 (count bytes Masters) k k d l (zero-add k)

  -- What record k says, once it is read.
  pub read_record : (k : ℕ) {p : Position} {r : Result Position RecordFault} → k < count bytes Masters → r ≡ Ok p →
      IfOk r (λ q. q ≡ master_record bytes k) → p ≡ get_or (records bytes) k (corner 0 0)
  read_record k l e takes = IfOk-at_ok (λ (q : Position). q ≡ master_record bytes k) e takes ∙ sym (record_at k (corner 0 0) l)
