-- Before each turn, the figures of the turns before are taken.
use Rattle.sheet.specs.Rows.{Taken}
use Rattle.sheet.proofs.taking.take_figures.Given as goal

abbrev pub invariant-loop-i : goal.invariant-loop-i
invariant-loop-i g l =
    Taken g.F.Figure.number g.F.Figure.meant g.F.Figure.BYTES l.bytes l.place l.i
    l.initial.figure-items l.figure-items
