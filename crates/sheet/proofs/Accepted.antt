-- A sheet is accepted exactly when no row of checking applies.
use Rattle.std.proofs.Common.{◌≡◌, ℕ, ◌+◌, ◌*◌, ◌<◌, ◌≤◌, length, false, List, is_some, is_ok, IfOk, None, Ok, Err, Decides, Result, sym, refl, arith}
use mathlib.Core.Logic.{∥∥₁_elim}
use mathlib.Core.Bool.{Bool-set}
use Rattle.std.proofs.lemmas.Bool.Decides.{nat_tests}
use Rattle.plane.specs.Refusal.{refused, first}
use Rattle.sheet.specs.declared.fault.SheetFault.{SheetFault}
use Rattle.sheet.specs.declared.section.Section.{Section}
use Rattle.sheet.specs.declared.section.Section.TheVariants.{Masters, Advances, Pairs}
use Rattle.sheet.specs.Layout.{KeepsLayout, count, stated_length, record_length}
use Rattle.sheet.specs.Refusals.{rows, sheet_refused, sheet_refusal}

pub sheet_refused_is : (bytes : List ℕ) → sheet_refused bytes ≡ first (rows bytes)
unfolding sheet_refused
sheet_refused_is bytes = refl

lengths_unrefused : (bytes : List ℕ) → sheet_refused bytes ≡ None → (s : Section)
    → stated_length bytes s ≡ record_length bytes s
unfolding sheet_refused
lengths_unrefused bytes e Masters = grind (arith, nat_tests)
lengths_unrefused bytes e Advances = grind (arith, nat_tests)
lengths_unrefused bytes e Pairs = grind (arith, nat_tests)

pub keeps_unrefused : (bytes : List ℕ) → sheet_refused bytes ≡ None → KeepsLayout bytes
unfolding sheet_refused
keeps_unrefused bytes e =
    record {
      header = grind (arith, nat_tests);
      limit = grind (arith, nat_tests);
      mark = grind (arith, nat_tests);
      version = grind (arith, nat_tests);
      few = grind (arith, nat_tests);
      lengths = lengths_unrefused bytes e;
      offsets = grind (arith, nat_tests);
    }

pub unrefused_keeps : (bytes : List ℕ) → KeepsLayout bytes → sheet_refused bytes ≡ None
unfolding sheet_refused
unrefused_keeps bytes k =
    let masters = k.lengths Masters in
    let advances = k.lengths Advances in
    let pairs = k.lengths Pairs in
    grind (arith, nat_tests)

-- An answer that gives the refusal of the bytes accepts exactly those that keep the layout.
pub accepted : {X : Type 0} (bytes : List ℕ) (r : Result X SheetFault) → refused sheet_refusal r ≡ sheet_refused bytes
    → Decides (is_ok r) (KeepsLayout bytes)
accepted bytes (Ok x) e = (λ _. keeps_unrefused bytes (sym e), λ _. refl)
accepted bytes (Err f) e = (λ no_Ok. grind arith, λ k. let none = unrefused_keeps bytes k in grind arith)

-- The same, as a window's type states it.
pub lawful : {X : Type 0} (bytes : List ℕ) (r : Result X SheetFault) → Decides (is_ok r) (KeepsLayout bytes)
    → IfOk r (λ _. ∥ KeepsLayout bytes ∥₁)
lawful bytes (Ok x) decides = ∣ decides.0 refl ∣₁
lawful bytes (Err f) decides = tt

-- The fact in a window's type, out of its truncation: whether a row applies is a test.
pub kept : (bytes : List ℕ) → ∥ KeepsLayout bytes ∥₁ → KeepsLayout bytes
kept bytes held =
    let free : is_some (sheet_refused bytes) ≡ false =
    ∥∥₁_elim held (Bool-set _ _) (λ k. let none = unrefused_keeps bytes k in grind arith)
    in
    keeps_unrefused bytes (grind arith)

-- A master record that the count covers lies within the bytes.
pub record_within : (bytes : List ℕ) (k : ℕ) → KeepsLayout bytes → k < count bytes Masters → 22 + 4 * k + 4 ≤ length bytes
record_within bytes k keeps below = omega arith
