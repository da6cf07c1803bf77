-- A load is a step: refused where there are placed masters, else it places the records.
use Rattle.std.proofs.Common.{◌≡◌, ℕ, ◌<◌, ◌≤◌, List, [], length, Some, None, refl, arith, ne_eqb}
use Rattle.std.proofs.lemmas.List.{append-nil, nil_from_length}
use Rattle.plane.specs.declared.position.Position.{Position}
use Rattle.plane.specs.Measures.{Heights}
use Rattle.plane.specs.Refusal.{Refusal}
use Rattle.sheet.specs.Layout.{KeepsLayout}
use Rattle.sheet.specs.Refusals.{sheet_refused}
use Rattle.sheet.proofs.Accepted.{kept, unrefused_keeps}
use Rattle.mesh.specs.Lists.{in_use}
use Rattle.mesh.specs.Tree.{fresh}
use Rattle.mesh.specs.declared.tables.Tables.{Tables}
use Rattle.family.specs.declared.fault.LoadFault.TheVariants.{HasMasters}
use Rattle.family.specs.Calls as call
use Rattle.family.specs.Calls.{Made, Stepped, Outcome, unless_refused}
use Rattle.family.specs.Loading.{records, records_refused, load_refused}
use Rattle.family.specs.Records.{TookAll}
use Rattle.family.specs.Refusals.{load_refusal}
use Rattle.family.proofs.Making.{made_count, made_fresh}

-- A checked sheet is not refused as one.
pub checked : (bytes : List ℕ) → ∥ KeepsLayout bytes ∥₁ → sheet_refused bytes ≡ None
checked bytes k = unrefused_keeps bytes (kept bytes k)

module _ (h : Heights) (t : Tables) (bytes : List ℕ) (lawful : ∥ KeepsLayout bytes ∥₁) where
  pub crowded_steps : 4 < length (in_use t).masters → Stepped h t (call.load bytes) (call.refused (load_refusal HasMasters)) t
  crowded_steps l = record { replied = replied; kept = λ ps g. rw (append-nil ps) g }
    where
      replied : (ps : List Position) → Made h ps t →
          call.refused (load_refusal HasMasters) ≡ unless_refused (load_refused h ps bytes) call.done
      replied ps g =
          let some = ne_eqb (length ps) 0 (λ e. absurd (omega (arith, made_count g))) in
          rw (checked bytes lawful, some) refl

  -- Without placed masters the family is that of the empty list.
  module _ (l : length (in_use t).masters ≤ 4) where
    none_placed : (ps : List Position) → Made h ps t → ps ≡ []
    none_placed ps g = nil_from_length ps (omega (arith, made_count g))

    answer : (ps : List Position) → Made h ps t → load_refused h ps bytes ≡ records_refused h ps 0 (records bytes)
    answer ps g = rw (none_placed ps g) (rw (checked bytes lawful) refl)

    pub loaded_steps : (t' : Tables) → TookAll h t bytes None t' → Stepped h t (call.load bytes) call.done t'
    loaded_steps t' took =
        record {
          replied = λ ps g. rw (answer ps g, took.answered ps g) refl;
          kept = λ ps g. took.all refl ps g;
        }

    pub unloaded_steps : (t' u : Tables) (r : Refusal) → TookAll h t bytes (Some r) u → in_use t' ≡ fresh h →
        Stepped h t (call.load bytes) (call.refused r) t'
    unloaded_steps t' u r took e =
        record {
          replied = λ ps g. rw (answer ps g, took.answered ps g) refl;
          kept = λ ps g. rw (append-nil ps, none_placed ps g) (made_fresh h t' e);
        }
