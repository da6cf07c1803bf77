-- How one section's row gives way to the next.
use Rattle.std.proofs.Common.{◌≡◌, ℕ, ◌+◌, ◌<◌, false, List, get_or, drop, refl, add-one, arith, drop-cons}
use Rattle.std.proofs.lemmas.Bool.Decides.{nat_tests}
use Rattle.plane.specs.Refusal.{first}
use Rattle.sheet.specs.declared.section.Section.TheVariants.{Masters}
use Rattle.sheet.specs.Layout.{sections, stated_offset, room}
use Rattle.sheet.specs.Refusals.{differs, offset_rows}

pub not_differs : (m n : ℕ) → m ≡ n → differs m n ≡ false
not_differs m n e = grind (arith, nat_tests)

-- Where the section at an index starts as it should, the rows from the next index on decide.
pub offset_passed : (bytes : List ℕ) (place next i : ℕ) → i < 3 → stated_offset bytes (get_or sections i Masters) ≡ place
    → next ≡ room bytes (get_or sections i Masters)
    → first (offset_rows bytes place (drop i sections)) ≡ first (offset_rows bytes (place + next) (drop (i + 1) sections))
offset_passed bytes place next i h at_place next_is =
    rw (add-one, drop-cons sections i Masters, not_differs (stated_offset bytes (get_or sections i Masters)) place at_place, next_is) refl
