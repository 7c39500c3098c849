use Rattle.std.proofs.Common.{Some, string_bytes}
use Rattle.std.proofs.lemmas.Map.Text.{btree_map_updates_text}
use Rattle.cx_io.proofs.mem_files.MemFiles.add.Goals as goal

pub returns-clause-ok : goal.returns-clause-ok
returns-clause-ok c = λ other.
    rw (← c.in_ok-from_str.ensures.ok)
    (btree_map_updates_text (string_bytes c.in_ok-from_str.field-0) c.args.self.now.files c.insert.new.self (Some c.args.bytes) c.in_ok-insert.ensures.updates other)
