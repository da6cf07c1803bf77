-- Placing a master p into a table: some live nodes are killed, and over each place of their rim a new node is born,
-- with p as its third master. Over a flat place none is born: that is an edge of the border on which p stands.
use Rattle.std.specs.Prelude.{◌≡◌, ℕ, ◌+◌, ◌*◌, ◌<◌, Bool, true, false, not, ◌&&◌, List, length, ℤ, pos, ◌+ℤ◌, ◌≢◌, slice_index}
use Rattle.algebra.specs.Sums.{Antisymmetric}
use Rattle.algebra.specs.Passing.{Among, passers, Once}
use Rattle.algebra.specs.Cuts.{on, rim}
use Rattle.algebra.specs.Tables.{Table, Edge, Twinned, edge_sum}

module _ (t : Table) (killed : ℕ → Bool) where
  -- Only live nodes are killed.
  pub record Kills : Type 0 where
    pub was_live : (i : ℕ) → i < t.size → killed i ≡ true → t.live i ≡ true

  -- The node is live and is not killed.
  abbrev pub spared : ℕ → Bool
  spared i = t.live i && not (killed i)

  -- The place has a node across it that is killed.
  abbrev pub inner : ℕ → Bool
  inner x = not (t.border x) && killed (t.across x)

  -- x is a place of a killed node, of one that is spared, and of the rim.
  abbrev pub OnKilled : ℕ → Type 0
  OnKilled x = Among (3 * t.size) (on killed) x

  abbrev pub OnSpared : ℕ → Type 0
  OnSpared x = Among (3 * t.size) (on spared) x

  abbrev pub OnRim : ℕ → Type 0
  OnRim x = Among (3 * t.size) (rim killed inner) x

  module _ (flat : ℕ → Bool) where
    -- The places over which nodes are born, in ascending order. At `λ x. false` these compute to those of the rim.
    unfoldable pub bearers : List ℕ
    bearers = passers (3 * t.size) (λ x. not (flat x) && rim killed inner x)

    -- How many nodes are born.
    abbrev pub born : ℕ
    born = length bearers

    -- The place over which the k-th of them is born.
    abbrev pub base : ℕ → ℕ
    base k = slice_index bearers k

    -- t' is t with the killed nodes dead, and with the new nodes behind the old ones. The first edge of a new node runs
    -- as its base does, the second runs in to p, and the third out from p.
    pub record Placed (p : ℕ) (t' : Table) : Type 0 where
      pub grown : t'.size ≡ t.size + born
      pub kept : (x : ℕ) → x < 3 * t.size → Edge t' x (t.from x) (t.to x)
      pub kept_live : (i : ℕ) → i < t.size → t'.live i ≡ spared i
      pub new_live : (k : ℕ) → k < born → t'.live (t.size + k) ≡ true
      pub outer : (k : ℕ) → k < born → Edge t' (3 * (t.size + k)) (t.from (base k)) (t.to (base k))
      pub run_in : (k : ℕ) → k < born → Edge t' (3 * (t.size + k) + 1) (t.to (base k)) p
      pub run_out : (k : ℕ) → k < born → Edge t' (3 * (t.size + k) + 2) p (t.from (base k))

    -- What is across the places of t'. A spared place has across it what it had, or the new node whose base runs back
    -- along it. A new node has across its first edge what its base had, and across the other two the new nodes after it
    -- and before it round the rim. Where a flat place comes after it or before it, that side is on the border.
    pub record Linked (t' : Table) : Type 0 where
      pub kept_border : {x : ℕ} → OnSpared x → t'.border x ≡ t.border x
      pub kept_across : {x : ℕ} → OnSpared x → t.border x ≡ false → killed (t.across x) ≡ false →
          t'.across x ≡ t.across x
      pub turned : {x : ℕ} → OnSpared x → (k : ℕ) → k < born → Edge t (base k) (t.to x) (t.from x) →
          t'.across x ≡ t.size + k
      pub outer_border : (k : ℕ) → k < born → t'.border (3 * (t.size + k)) ≡ t.border (base k)
      pub outer_across : (k : ℕ) → k < born → t.border (base k) ≡ false →
          t'.across (3 * (t.size + k)) ≡ t.across (base k)
      pub in_border : {y : ℕ} (k : ℕ) → k < born → OnRim y → t.from y ≡ t.to (base k) →
          t'.border (3 * (t.size + k) + 1) ≡ flat y
      pub in_across : (j k : ℕ) → j < born → k < born → t.from (base j) ≡ t.to (base k) →
          t'.across (3 * (t.size + k) + 1) ≡ t.size + j
      pub out_border : {y : ℕ} (k : ℕ) → k < born → OnRim y → t.to y ≡ t.from (base k) →
          t'.border (3 * (t.size + k) + 2) ≡ flat y
      pub out_across : (j k : ℕ) → j < born → k < born → t.to (base j) ≡ t.from (base k) →
          t'.across (3 * (t.size + k) + 2) ≡ t.size + j

    -- The flat places of the rim are on the border.
    abbrev pub FlatOnBorder : Type 0
    FlatOnBorder = (x : ℕ) → OnRim x → flat x ≡ true → t.border x ≡ true

    -- Round a flat place of the rim and p, φ sums to 0.
    abbrev pub FlatSums : ℕ → (ℕ → ℕ → ℤ) → Type 0
    FlatSums p φ =
        (x : ℕ) → OnRim x → flat x ≡ true → φ (t.from x) (t.to x) +ℤ φ (t.to x) p +ℤ φ p (t.from x) ≡ pos 0

-- No edge starts or ends at p.
pub record Fresh (t : Table) (p : ℕ) : Type 0 where
  pub not_from : (x : ℕ) → x < 3 * t.size → t.from x ≢ p
  pub not_to : (x : ℕ) → x < 3 * t.size → t.to x ≢ p

module _ (t : Table) (killed flat : ℕ → Bool) (p : ℕ) (t' : Table) where
  -- The claim that placing keeps the sum of every antisymmetric function.
  abbrev pub SumsKept : Type 0
  SumsKept =
      Twinned t → Kills t killed → Placed t killed flat p t' → (φ : ℕ → ℕ → ℤ) → Antisymmetric φ →
      FlatSums t killed flat p φ → edge_sum φ t' ≡ edge_sum φ t

  -- The claim that placing keeps twins, if no two places of the rim start at one master.
  abbrev pub TwinsKept : Type 0
  TwinsKept =
      Twinned t → Kills t killed → Placed t killed flat p t' → Linked t killed flat t' → Fresh t p →
      Once (3 * t.size) (rim killed (inner t killed)) t.from → FlatOnBorder t killed flat → Twinned t'
