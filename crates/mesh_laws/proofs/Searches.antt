-- The first edge of a hole that passes a test: it is the only one, where there is only one.
use Rattle.std.proofs.Common.{◌≡◌, ℕ, zero, suc, ◌+◌, ◌<◌, Bool, true, false, cond, ◌⊎◌, List, [], ◌∷◌, length, get_or, Some, sym, ap, ◌∙◌, inl, inr, add-zero, arith}
use Rattle.std.proofs.lemmas.Bool.{cases_Bool, cond-true, cond-false}
use Rattle.mesh.specs.Edges.{HoleEdge}
use Rattle.mesh.specs.Placing.{first_edge}

pub first_is : (d : HoleEdge) (test : HoleEdge → Bool) (k : ℕ) (es : List HoleEdge) (j : ℕ) → j < length es →
    test (get_or es j d) ≡ true → ((l : ℕ) → l < length es → test (get_or es l d) ≡ true → l ≡ j) →
    first_edge test k es ≡ Some (k + j)
first_is d test k [] j l t only = absurd (omega arith)
first_is d test k (e ∷ es) zero l t only = cond-true (test e) _ _ t ∙ ap Some (sym (add-zero k))
first_is d test k (e ∷ es) (suc j) l t only =
    cond-false (test e) _ _ (at (cases_Bool (test e)))
    ∙ first_is d test (suc k) es j (omega arith) t (λ v m r. let z = only (suc v) (omega arith) r in omega arith)
    ∙ ap Some (omega arith)
  where
    at : (test e ≡ true) ⊎ (test e ≡ false) → test e ≡ false
    at (inl r) = let z = only 0 (omega arith) r in absurd (omega arith)
    at (inr r) = r

pub first_below : (test : HoleEdge → Bool) (k : ℕ) (es : List HoleEdge) (v : ℕ) → first_edge test k es ≡ Some v →
    v < k + length es
first_below test k [] v r = let z : ◌≡◌ {A = ℕ} 0 1 = cc in absurd (omega arith)
first_below test k (e ∷ es) v r = at (test e) r (first_below test (suc k) es v)
  where
    at : (b : Bool) → cond b (Some k) (first_edge test (suc k) es) ≡ Some v →
        (first_edge test (suc k) es ≡ Some v → v < suc k + length es) → v < k + suc (length es)
    at true q ih = let z : k ≡ v = cc in omega arith
    at false q ih = let z = ih q in omega arith
