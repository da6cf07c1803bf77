-- The table of a tree, place by place: what it has at the place of edge e of node i.
use Rattle.std.proofs.Common.{◌≡◌, ℕ, ◌+◌, ◌*◌, ◌/◌, ◌%◌, ◌<◌, not, is_some, sym, ap, ◌∙◌, add-zero, arith, lit<}
use Rattle.algebra.specs.Cuts.{Rounds}
use Rattle.algebra.specs.Tables.{OnLive}
use Rattle.algebra.proofs.Passing.{among}
use Rattle.mesh.specs.Owner.{node, LiveNode}
use Rattle.mesh.specs.Placing.{start, finish, across}
use Rattle.mesh.specs.Tree.{Mesh}
use Rattle.mesh_laws.specs.Places.{number, table}

-- The node and the edge of a place.
pub place_node : (i e : ℕ) → e < 3 → (3 * i + e) / 3 ≡ i
place_node i e l = omega arith

pub place_edge : (i e : ℕ) → e < 3 → (3 * i + e) % 3 ≡ e
place_edge i e l = omega arith

module _ (m : Mesh) (i e : ℕ) (l : e < 3) where
  pub from_at : (table m).from (3 * i + e) ≡ start (node m i) e
  unfolding table
  from_at = rw (place_node i e l, place_edge i e l)

  pub to_at : (table m).to (3 * i + e) ≡ finish (node m i) e
  unfolding table
  to_at = rw (place_node i e l, place_edge i e l)

  pub border_at : (table m).border (3 * i + e) ≡ not (is_some (across (node m i) e))
  unfolding table
  border_at = rw (place_node i e l, place_edge i e l)

  pub across_at : (table m).across (3 * i + e) ≡ number (across (node m i) e)
  unfolding table
  across_at = rw (place_node i e l, place_edge i e l)

  pub on_live : LiveNode m i → OnLive (table m) (3 * i + e)
  unfolding table
  on_live o = let u = o.used in among (omega arith) (rw (place_node i e l) o.lives)

-- The node of a live place.
pub live_node : {m : Mesh} {x : ℕ} → OnLive (table m) x → LiveNode m (x / 3)
unfolding table
live_node a = let l = a.below in record { used = omega arith; lives = a.passes }

-- Edges go round their nodes: each ends where the next one starts.
pub rounds_at : (m : Mesh) → Rounds (table m).size (table m).from (table m).to
rounds_at m = record {
  first = λ i l.
      ap (table m).to (sym (add-zero (3 * i))) ∙ to_at m i 0 (lit< tt) ∙ sym (from_at m i 1 (lit< tt));
  second = λ i l. to_at m i 1 (lit< tt) ∙ sym (from_at m i 2 (lit< tt));
  third = λ i l.
      to_at m i 2 (lit< tt) ∙ sym (from_at m i 0 (lit< tt)) ∙ ap (table m).from (add-zero (3 * i));
}
