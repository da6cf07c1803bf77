-- What a mix is made of.
use Rattle.std.specs.Prelude.{◌≡◌, ℕ, ◌<◌, List, [], ◌∷◌, map, pos, slice_index}
use Rattle.plane.specs.Plane.{turn, Owns}
use Rattle.plane.specs.declared.Position.{Position}
use Rattle.plane.specs.Rings.{AllInPlane}
use Rattle.figures.specs.declared.mix.Mix.{Mix}

-- Three masters of a family stand at a, b and c, in the plane, and their triangle owns q.
pub record Owner (q a b c : Position) (masters : List ℕ) (count : ℕ) : Type 0 where
  pub housed : AllInPlane a b c q
  pub owns : Owns a b c q
  pub known : (i : ℕ) → i < 3 → slice_index masters i < count

-- Their mix at q: the weights are those of q in a, b, c, and the total is their sum.
pub record MixAt (q a b c : Position) (masters : List ℕ) (count : ℕ) (m : Mix) : Type 0 where
  pub same_masters : m.masters ≡ masters
  pub same_count : m.count ≡ count
  pub weighed : map pos m.weights ≡ turn q b c ∷ turn q c a ∷ turn q a b ∷ []
  pub summed : pos m.total ≡ turn a b c
