use Rattle.std.proofs.Common.{◌≡◌, List, map, sym, subst, rules}
use Rattle.cx_cname.specs.Known.{known_of}
use Rattle.cx_reader.specs.Faults.{IsOnly}
use Rattle.cx_reader.specs.Reading.{got, Stops}
use Rattle.cx_reader.specs.declared.stop.Stop.{Stop}
use Rattle.cx_reader.specs.declared.stop.Stop.TheVariants as stop
use Rattle.cx_tsyn.specs.Items.{type_item_tree}
use Rattle.cx_tsyn.specs.declared.item.TypeItem.{TypeItem}
use Rattle.cx_titem.specs.Items.{AreItems}
use Rattle.cx_titem.specs.Reading.{file_at}
use Rattle.cx_titem.proofs.Laws.{file_read, file_fault, nothing_read}
use Rattle.cx_titem.proofs.file.surface.Goals as goal

pub returns-then-lexemes-eq0 : goal.returns-then-lexemes-eq0
returns-then-lexemes-eq0 c =
    let only : List TypeItem → Type 0 = λ items. IsOnly (AreItems c.args.bytes.now (known_of c.args.unit.now)) c.args.lexemes.now (map type_item_tree items) in
    subst only (sym c.new.ensures) (nothing_read c.args.bytes.now (known_of c.args.unit.now) c.args.lexemes.now (search rules))

pub returns-in-Ok : goal.returns-in-Ok
returns-in-Ok c = file_read c.args.bytes.now (known_of c.args.unit.now) c.args.lexemes.now (got (map type_item_tree) c.in-Ok.x) c.in-Ok.ensures

pub returns-in-Err-Unread : goal.returns-in-Err-Unread
returns-in-Err-Unread c =
    let stops : Stop → Type 0 = λ s. Stops s (file_at c.args.bytes.now (known_of c.args.unit.now) c.args.lexemes.now) in
    let unread : c.in-Err-Unread.field-0 ≡ stop.Unread c.in-Err-Unread.left = cc in
    file_fault c.args.bytes.now (known_of c.args.unit.now) c.args.lexemes.now c.in-Err-Unread.left c.lexeme_left.result (subst stops unread c.in-Err-Unread.ensures) c.lexeme_left.ensures
