use Rattle.cx_form.proofs.Whole.{c_file_sound, c_file_missing}
use Rattle.cx_form.proofs.reader.read_c_file.Goals as goal

pub returns-in-Ok-clause-some : goal.returns-in-Ok-clause-some
returns-in-Ok-clause-some c = c_file_sound c.args.bytes.now c.in-Ok.c c.in-Ok.ensures

pub returns-in-Err-Unread-clause-none : goal.returns-in-Err-Unread-clause-none
returns-in-Err-Unread-clause-none c = c_file_missing c.args.bytes.now (rw c.in-Err-Unread.field-0-is at c.in-Err-Unread.ensures)
