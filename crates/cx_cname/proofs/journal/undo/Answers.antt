use Rattle.std.proofs.Common.{refl}
use Rattle.cx_cname.proofs.Undoing.{undone_tag, undone_typedef, undone_members}
use Rattle.cx_cname.proofs.Measures.{remains_front, remains_set}
use Rattle.cx_cname.proofs.journal.undo.Goals as goal

pub returns-in-Tag-clause-remains : goal.returns-in-Tag-clause-remains
returns-in-Tag-clause-remains c = remains_front _ _ _ c.cut_last.ensures

pub returns-in-Tag-clause-undone : goal.returns-in-Tag-clause-undone
returns-in-Tag-clause-undone c = λ u. rw c.in-Tag.is (undone_tag u _ _ _ _ _ c.cut_last.ensures)

pub returns-then-at-len-clause-remains : goal.returns-then-at-len-clause-remains
returns-then-at-len-clause-remains c = remains_set _ _ _ _ c.nothing.result c.set.ensures.new refl refl c.nothing.ensures.size c.nothing.ensures.align

pub returns-then-at-len-clause-undone : goal.returns-then-at-len-clause-undone
returns-then-at-len-clause-undone c = λ u. rw c.in-Members.is (undone_members u _ _ _ _ _ _ _ c.set.ensures.new refl)

pub returns-in-Typedef-clause-undone : goal.returns-in-Typedef-clause-undone
returns-in-Typedef-clause-undone c = λ u. rw c.in-Typedef.is (undone_typedef u _ _ _ _ _ c.cut_last-in-Typedef.ensures)
