use Rattle.cx_form.proofs.Whole.{type_file_sound, type_file_missing}
use Rattle.cx_form.proofs.reader.read_type_file.Goals as goal

pub returns-in-Ok-clause-some : goal.returns-in-Ok-clause-some
returns-in-Ok-clause-some c = type_file_sound c.args.bytes.now c.args.c.now c.in-Ok.t c.in-Ok.ensures

pub returns-in-Err-Unread-clause-none : goal.returns-in-Err-Unread-clause-none
returns-in-Err-Unread-clause-none c = type_file_missing c.args.bytes.now c.args.c.now (rw c.in-Err-Unread.field-0-is at c.in-Err-Unread.ensures)
