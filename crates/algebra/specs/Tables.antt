-- Tables of triangles by places: the place 3 i + e is the edge e of the node i. Some nodes are live.
use Rattle.std.specs.Prelude.{◌≡◌, ℕ, ◌*◌, ◌/◌, Bool, true, false, ℤ}
use Rattle.algebra.specs.Sums.{sum, only}
use Rattle.algebra.specs.Passing.{Among}
use Rattle.algebra.specs.Cuts.{on, Runs, Rounds}

-- How many nodes there are; for a place the masters where it starts and ends; for a node whether it is live; and for a
-- place whether it is on the border, and the node across it if it is not.
pub record Table : Type 0 where
  pub size : ℕ
  pub from : ℕ → ℕ
  pub to : ℕ → ℕ
  pub live : ℕ → Bool
  pub border : ℕ → Bool
  pub across : ℕ → ℕ

-- The place x runs from a to b.
abbrev pub Edge : Table → ℕ → ℕ → ℕ → Type 0
Edge t x a b = Runs t.from t.to x a b

-- x is a place of a live node.
abbrev pub OnLive : Table → ℕ → Type 0
OnLive t x = Among (3 * t.size) (on t.live) x

-- The twin of an edge from a to b: a place of the live node i that runs from b to a.
pub record Twin (t : Table) (a b i : ℕ) : Type 0 where
  pub place : ℕ
  pub lives : OnLive t place
  pub back : Edge t place b a
  pub node : place / 3 ≡ i

-- The nodes go round. No two live places run alike. A live place has its twin on the node across it, or is on the
-- border and has none.
pub record Twinned (t : Table) : Type 0 where
  pub rounds : Rounds t.size t.from t.to
  pub once : {x y : ℕ} → OnLive t x → OnLive t y → Edge t x (t.from y) (t.to y) → x ≡ y
  pub twin : {x : ℕ} → OnLive t x → t.border x ≡ false → Twin t (t.from x) (t.to x) (t.across x)
  pub alone : {x y : ℕ} → OnLive t x → t.border x ≡ true → OnLive t y → Edge t y (t.to x) (t.from x) → ⊥

-- The sum of φ over the edges of the live nodes.
unfoldable pub edge_sum : (ℕ → ℕ → ℤ) → Table → ℤ
edge_sum φ t = sum (3 * t.size) (λ x. only (on t.live x) (φ (t.from x) (t.to x)))
