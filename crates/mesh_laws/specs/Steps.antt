-- Placing, entry by entry: what stands at each old node and at each new one.
use Rattle.std.specs.Prelude.{◌≡◌, ℕ, ◌+◌, ◌/◌, ◌%◌, ◌<◌, true, false, cond, [], ◌∷◌, ◌++◌, length, Some, None, slice_index_or}
use Rattle.plane.specs.declared.position.Position.{Position}
use Rattle.plane.specs.Measures.{Heights}
use Rattle.algebra.specs.Placing.{Placed, Linked, Kills, Fresh, born, base}
use Rattle.mesh.specs.Owner.{node}
use Rattle.mesh.specs.Placing.{start, across, live}
use Rattle.mesh.specs.Tree.{Mesh}
use Rattle.mesh_laws.specs.Places.{table, killed, flat, entry_at}

-- A node has three masters of the family, three entries for neighbours that are in use, and three for sons; a live node has no sons.
pub record Formed (m : Mesh) (i : ℕ) : Type 0 where
  pub three_masters : length (node m i).masters ≡ 3
  pub three_neighbours : length (node m i).neighbours ≡ 3
  pub three_sons : length (node m i).sons ≡ 3
  pub masters_in : (e : ℕ) → start (node m i) e < length m.masters
  pub neighbours_in : (e j : ℕ) → across (node m i) e ≡ Some j → j < length m.nodes
  pub childless : live (node m i) ≡ true → (e : ℕ) → slice_index_or (node m i).sons e None ≡ None

abbrev pub AllFormed : Mesh → Type 0
AllFormed m = (i : ℕ) → i < length m.nodes → Formed m i

-- What placing p makes of a tree m whose nodes are formed. The k-th new node, the number of nodes before plus k, is made over the place
-- `base k`, the k-th edge of the hole: the edge `base k % 3` of the killed node `base k / 3`.
module _ (h : Heights) (m : Mesh) (p : Position) where
  -- How many nodes are made, and over which place the k-th.
  abbrev pub made : ℕ
  made = born (table m) (killed h m p) flat

  abbrev pub foot : ℕ → ℕ
  foot k = base (table m) (killed h m p) flat k

  pub record Step (m' : Mesh) : Type 0 where
    -- the new master is the last
    pub masters : m'.masters ≡ m.masters ++ p ∷ []
    pub formed : AllFormed m'
    -- edges, live nodes and neighbours
    pub kills : Kills (table m) (killed h m p)
    pub fresh : Fresh (table m) (length m.masters)
    pub placed : Placed (table m) (killed h m p) flat (length m.masters) (table m')
    pub linked : Linked (table m) (killed h m p) flat (table m')
    -- masters, fathers and stepfathers never change
    pub old_masters : (i : ℕ) → i < length m.nodes → (node m' i).masters ≡ (node m i).masters
    pub old_father : (i : ℕ) → i < length m.nodes → (node m' i).father ≡ (node m i).father
    pub old_stepfather : (i : ℕ) → i < length m.nodes → (node m' i).stepfather ≡ (node m i).stepfather
    -- only the killed get a killer, the new master
    pub old_killer : (i : ℕ) → i < length m.nodes →
        (node m' i).killer ≡ cond (killed h m p i) (Some (length m.masters)) (node m i).killer
    -- sons are set once: by the killing, through the edges of the hole
    pub old_sons : (i : ℕ) → i < length m.nodes → killed h m p i ≡ false → (node m' i).sons ≡ (node m i).sons
    pub new_sons : (k : ℕ) → k < made → slice_index_or (node m' (foot k / 3)).sons (foot k % 3) None ≡ Some (length m.nodes + k)
    -- a new node's masters, father and stepfather
    pub new_masters : (k : ℕ) → k < made →
        (node m' (length m.nodes + k)).masters ≡
        (table m).from (foot k) ∷ (table m).to (foot k) ∷ length m.masters ∷ []
    pub new_father : (k : ℕ) → k < made → (node m' (length m.nodes + k)).father ≡ Some (foot k / 3)
    pub new_stepfather : (k : ℕ) → k < made → (node m' (length m.nodes + k)).stepfather ≡ entry_at m (foot k)
