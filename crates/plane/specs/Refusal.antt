-- A refusal as the table of docs/refusals.md lists it. Each enum of faults has one definition that attaches this to its cases.
use Rattle.std.specs.Prelude.{ℕ, Bool, cond, List, [], ◌∷◌, Some, None, Ok, Err, Option, Result}

pub record Refusal : Type 0 where
  pub number : ℕ
  -- the values that it names, in the order of the table; most name none
  pub names : List ℕ

-- The refusal in an answer, where it is one.
abbrev pub refused : {X E : Type 0} → (E → Refusal) → Result X E → Option Refusal
refused told (Ok x) = None
refused told (Err e) = Some (told e)

-- A row of the table: whether it applies, and what it then answers.
pub record Row : Type 0 where
  pub applies : Bool
  pub answer : Refusal

-- Rows are tried downward: the answer of the first that applies.
abbrev pub first : List Row → Option Refusal
first [] = None
first (row ∷ rows) = cond row.applies (Some row.answer) (first rows)
