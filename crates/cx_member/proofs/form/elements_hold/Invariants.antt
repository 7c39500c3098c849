use Rattle.cx_member.specs.Reading.{ElementsHoldUpTo}
use Rattle.cx_member.proofs.form.elements_hold.Given as goal

abbrev pub invariant-loop-i : goal.invariant-loop-i
invariant-loop-i l = ElementsHoldUpTo l.i l.known l.memory l.index l.form l.tail
