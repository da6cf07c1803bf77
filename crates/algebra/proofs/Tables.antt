-- What twins give: the node across a twin is the place's own, and killing some live nodes makes a cut.
use Rattle.std.proofs.Common.{◌≡◌, ℕ, ◌/◌, Bool, true, false, ◌⊎◌, sym, ap, ◌∙◌, inl, inr, arith}
use Rattle.std.proofs.lemmas.Bool.{cases_Bool, both_ways, and_parts, and_from, not-true, not_from_false}
use Rattle.algebra.specs.Cuts.{on, Cut}
use Rattle.algebra.specs.Tables.{Table, Edge, OnLive, Twinned}
use Rattle.algebra.specs.Placing.{Kills, inner, OnKilled, OnSpared, OnRim}
use Rattle.algebra.proofs.Passing.{among}

-- Where x runs back along y, the node of x is across y.
pub twin_back : {t : Table} {x y : ℕ} → Twinned t → OnLive t x → OnLive t y → Edge t x (t.to y) (t.from y) →
    (t.border y ≡ false) × (t.across y ≡ x / 3)
twin_back {t} {x} {y} w a b r = at (cases_Bool (t.border y))
  where
    at : (t.border y ≡ true) ⊎ (t.border y ≡ false) → (t.border y ≡ false) × (t.across y ≡ x / 3)
    at (inl e) = absurd (w.alone b e a r)
    at (inr e) =
        let z = w.twin b e in
        let back = z.back in
        let same = w.once z.lives a (record { starts = cc; ends = cc }) in
        (e, sym z.node ∙ ap (λ v. v / 3) same)

module _ {t : Table} {killed : ℕ → Bool} (w : Twinned t) (kills : Kills t killed) where
  -- A live place is killed or spared, and not both.
  pub killed_live : {x : ℕ} → OnKilled t killed x → OnLive t x
  killed_live {x} a = among a.below (kills.was_live (x / 3) (let l = a.below in omega arith) a.passes)

  pub spared_live : {x : ℕ} → OnSpared t killed x → OnLive t x
  spared_live a = among a.below (and_parts _ _ a.passes).0

  pub spared_not_killed : {x : ℕ} → OnSpared t killed x → on killed x ≡ false
  spared_not_killed a = not-true _ (and_parts _ _ a.passes).1

  pub killed_or_spared : {x : ℕ} → OnLive t x → OnKilled t killed x ⊎ OnSpared t killed x
  killed_or_spared {x} a = at (cases_Bool (on killed x))
    where
      at : (on killed x ≡ true) ⊎ (on killed x ≡ false) → OnKilled t killed x ⊎ OnSpared t killed x
      at (inl e) = inl (among a.below e)
      at (inr e) = inr (among a.below (and_from _ _ a.passes (not_from_false _ e)))

  pub cut : Cut t.size t.from t.to killed (inner t killed)
  cut = record {
    rounds = w.rounds;
    once = λ a b r. w.once (killed_live a) (killed_live b) r;
    paired = λ a i.
        let z = w.twin (killed_live a) (grind arith) in
        let e = z.node in
        (z.place, among z.lives.below (grind arith), z.back);
    alone = λ a i b r.
        let q = twin_back w (killed_live b) (killed_live a) r in
        both_ways _ i (grind arith);
  }

  -- A killed place along which a spared one runs back is on the rim, and not on the border.
  pub back_on_rim : {x y : ℕ} → OnSpared t killed x → OnKilled t killed y → Edge t x (t.to y) (t.from y) →
      OnRim t killed y × (t.border y ≡ false)
  back_on_rim a b r =
      let q = twin_back w (spared_live a) (killed_live b) r in
      (among b.below (grind arith), q.0)
