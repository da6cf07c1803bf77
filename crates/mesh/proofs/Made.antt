-- Lists of answers: what holds of each element that was made from the element beside it.
use Rattle.std.proofs.Common.{◌≡◌, ℕ, suc, ◌<◌, ◌≤◌, List, [], ◌∷◌, length, map, take, get_or, refl, arith}

pub matched : {X Y : Type 0} (test : X → Y) (xs : List X) (ys : List Y) (d : X) (e : Y) → length xs ≤ length ys →
    ((i : ℕ) → i < length xs → get_or ys i e ≡ test (get_or xs i d)) → take (length xs) ys ≡ map test xs
matched test [] ys d e l h = refl
matched test (x ∷ xs) [] d e l h = absurd (omega arith)
matched test (x ∷ xs) (y ∷ ys) d e l h =
    let here = h 0 (omega arith) in
    let rest = matched test xs ys d e (omega arith) (λ i k. h (suc i) (omega arith)) in
    cc
