-- Calls of a closure at the elements of an array, in turn.
use Rattle.std.proofs.Common.{◌≡◌, ℕ, ◌<◌, List, [], ◌∷◌, length, get_or, subst}
use Rattle.std.specs.Array.{list_steps}
use Rattle.std.specs.Iterator.{CallableAtEachTurn, AlwaysYields}
use Rattle.std.proofs.lemmas.Iterator.Adapters.{serves_from_places}

-- A list gives its elements.
gives_its_own : {A : Type 0} (xs : List A) → AlwaysYields list_steps (λ x. x) xs xs
gives_its_own {A} [] = λ x j e. cc
gives_its_own {A} (y ∷ ys) =
    (λ j e. cc, λ x j e. (cc, (let rest : ys ≡ j = cc in subst (λ (l : List A). AlwaysYields list_steps (λ x. x) l ys) rest (gives_its_own ys))))

-- Where a call leaves the closure as it is, and may be made at each element, all may be made.
pub callable_on_all : {A F : Type 0} {R : F → A → F → Type 0} {Q : F → A → Type 0} {f : F} (xs : List A)
    → ((x : A) (q : F) → R f x q → q ≡ f) → ((x : A) (k : ℕ) → k < length xs → x ≡ get_or xs k x → Q f x)
    → CallableAtEachTurn list_steps R Q xs f
callable_on_all xs same each = serves_from_places (record { runs = gives_its_own xs }) same each
