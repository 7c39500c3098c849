-- What is spelled as a statement is read as that, whatever follows; after one that ends with an `if` without `else`, no `else` may follow.
use Rattle.std.proofs.Common.{◌≡◌, ℕ, ◌+◌, ◌-◌, ◌*◌, ◌≤◌, Bool, true, false, ◌||◌, List, [], ◌∷◌, ◌++◌, length, length-append, Option, Some, refl, sym, ap, ◌∙◌, append_assoc, arith}
use Rattle.std.specs.Prelude.{not, max}
use Rattle.cx_base.proofs.General.{or_true, not_both_ways}
use Rattle.cx_ctree.specs.Exprs.{RhsTree}
use Rattle.cx_ctree.specs.Stmts.{StmtTree, StmtKindTree, empty, break, continue, return, StmtTrees, no_stmt, also_stmt, GroupTrees, no_group}
use Rattle.cx_ctree.specs.Path.{stmt_path, stmts_path, groups_path}
use Rattle.cx_ctree.specs.Decls.{DeclTree}
use Rattle.cx_cword.specs.declared.word.Keyword.TheVariants as k
use Rattle.cx_cword.specs.declared.word.Punctuator.TheVariants as p
use Rattle.cx_cword.specs.declared.lexeme.Lexeme.{Lexeme}
use Rattle.cx_cword.specs.declared.lexeme.LexemeKind.{LexemeKind}
use Rattle.cx_cword.specs.declared.lexeme.LexemeKind.TheVariants as l
use Rattle.cx_cword.specs.Reading.{Is, first_of, past_of}
use Rattle.cx_cname.specs.Known.{Known}
use Rattle.cx_cexpr.proofs.Spans.{first-append, past-append}
use Rattle.cx_ceffect.proofs.Follows.{closes}
use Rattle.cx_ceffect.proofs.Sound.{effect_filled}
use Rattle.cx_ceffect.proofs.Again.{rhs_there, effect_there}
use Rattle.cx_cdecl.proofs.Grows.{Fits, fits_few, fits_after, fits_less}
use Rattle.cx_cword.specs.declared.mark.Mark.TheVariants as m
use Rattle.cx_cstmt.specs.declared.kinds.Head.TheVariants as h
use Rattle.cx_cstmt.specs.Kinds.{head_of, label_of, is_label, begins_label, ends_group}
use Rattle.cx_cstmt.specs.Statements as grammar
use Rattle.cx_cstmt.specs.Statements.{IsResult, no_result, some_result, all_of, some_stmt, some_group, IsStmt, block_stmt, empty_stmt, effect_stmt, if_stmt, if_else_stmt, while_stmt, do_stmt, for_stmt, switch_stmt, break_stmt, continue_stmt, return_stmt, AreBlockItems, no_item, local_item, stmt_item, AreStmts, no_more, more, AreGroups, no_groups, last_group, also_groups}
use Rattle.cx_cstmt.specs.Reading.{listed, push, push_group, jump_at, return_at, effect_stmt_at, stmt_at, items_at, stmts_at, groups_at}
use Rattle.cx_cstmt.proofs.Steps.{lacks, two_ends, all_push, all_none, all_assoc, all_groups, groups_push, groups_none}
use Rattle.cx_cstmt.proofs.Filled.{local_filled, labels_filled, stmt_filled}
use Rattle.cx_cstmt.proofs.Goes.{built, stmt_got, three_parts}
use Rattle.cx_cstmt.proofs.Begins.{Acting, heads, effect_acting, rhs_begins, labels_begin, label_no_brace, local_declaring, stmt_stating}
use Rattle.cx_cstmt.proofs.Growing.{init_grows, local_grows, stmt_grows, stmts_grow}
use Rattle.cx_cstmt.proofs.LocalThere.{local_there}
use Rattle.cx_cstmt.proofs.HeaderThere.{enclosed_there, labels_there, header_there}
use Rattle.cx_cstmt.proofs.StmtGoes.{inner_at, within_at, cases_at, stmt_head, if_goes, else_goes, while_goes, do_goes, for_goes, switch_goes, block_goes, jump_goes, return_goes, return_alone, effect_goes, ends_stmts, items_end, items_local, items_stmt, stmts_end, stmts_more, groups_end, groups_more}
use Rattle.cx_cword.specs.Marks as marks

-- ---- what follows a statement

ending_other : (kind : LexemeKind) → ends_group kind ≡ true → marks.fits m.Else kind ≡ false
ending_other (l.Keyword k.Else) e = absurd cc
ending_other (l.Punctuator p.CloseBrace) e = refl
ending_other _ e = refl

ends_no_else : (os : List Lexeme) → ends_stmts os ≡ true → lacks m.Else os ≡ true
ends_no_else [] e = refl
ends_no_else (o ∷ os) e = ap not (ending_other o.kind e)

label_ends : (os : List Lexeme) → begins_label os ≡ true → ends_stmts os ≡ true
label_ends [] e = absurd cc
label_ends (o ∷ os) e = ap (λ (b : Bool). marks.fits m.CloseBrace o.kind || b) e ∙ or_true (marks.fits m.CloseBrace o.kind)

brace_no_else : (c : Lexeme) (rest : List Lexeme) → Is p.CloseBrace c → lacks m.Else (c ∷ rest) ≡ true
brace_no_else c rest is = ap (λ (kind : LexemeKind). not (marks.fits m.Else kind)) is

items_no_else : {earlier : List DeclTree} {env known : Known} {a : List Lexeme} {ss : StmtTrees} → AreBlockItems earlier env a ss known → (c : Lexeme) (rest : List Lexeme) → Is p.CloseBrace c → lacks m.Else (a ++ c ∷ rest) ≡ true
items_no_else no_item c rest is = brace_no_else c rest is
items_no_else (local_item {a = a} {c = b} s q) c rest is = ap (lacks m.Else) (append_assoc a b (c ∷ rest)) ∙ (local_declaring s (b ++ c ∷ rest)).other
items_no_else (stmt_item {a = a} {c = b} s q) c rest is = ap (lacks m.Else) (append_assoc a b (c ∷ rest)) ∙ (stmt_stating s (b ++ c ∷ rest)).other

stmts_no_else : {earlier : List DeclTree} {env known : Known} {a : List Lexeme} {ss : StmtTrees} → AreStmts earlier env a ss known → (rest : List Lexeme) → ends_stmts rest ≡ true → lacks m.Else (a ++ rest) ≡ true
stmts_no_else no_more rest e = ends_no_else rest e
stmts_no_else (more {a = a} {c = c} s q) rest e = ap (lacks m.Else) (append_assoc a c rest) ∙ (stmt_stating s (c ++ rest)).other

stmts_no_label : {earlier : List DeclTree} {env known : Known} {a : List Lexeme} {ss : StmtTrees} → AreStmts earlier env a ss known → (rest : List Lexeme) → (some_stmt ss ≡ false → begins_label rest ≡ false) → begins_label (a ++ rest) ≡ false
stmts_no_label no_more rest e = e refl
stmts_no_label (more {a = a} {c = c} s q) rest e = ap begins_label (append_assoc a c rest) ∙ (stmt_stating s (c ++ rest)).label

groups_begin : {earlier : List DeclTree} {env known : Known} {a : List Lexeme} {gs : GroupTrees} → AreGroups earlier env a gs known → some_group gs ≡ true → (rest : List Lexeme) → begins_label (a ++ rest) ≡ true
groups_begin no_groups e rest = absurd cc
groups_begin (last_group {a = a} {c = c} labels q) e rest = ap begins_label (append_assoc a c rest) ∙ labels_begin labels (c ++ rest)
groups_begin (also_groups {a = a} {c = c} {d = d} labels q some also r) e rest = ap begins_label (three_parts a c d rest) ∙ labels_begin labels (c ++ (d ++ rest))

all_path : (ss us : StmtTrees) → stmts_path (all_of ss us) ≡ max (stmts_path ss) (stmts_path us)
all_path no_stmt us = omega arith
all_path (also_stmt s ss) us = let h = all_path ss us in omega (arith, h)

-- ---- statements without statements in them

jump_there : (env : Known) (i o : Lexeme) (kind : StmtKindTree) (d : ℕ) (rest : List Lexeme) → Is p.Semicolon o → stmt_path (grammar.spelled (i ∷ o ∷ []) kind) ≤ d
    → jump_at d i.span.first kind env (o ∷ rest) ≡ Some (stmt_got (grammar.spelled (i ∷ o ∷ []) kind) (i ∷ o ∷ []) env rest)
jump_there env i o kind d rest is low = jump_goes env d i.span.first kind (i ∷ o ∷ []) rest o is (record { begins = refl; ends = refl; low = low })

result_there : {env : Known} {a : List Lexeme} {r : Option RhsTree} → IsResult env a r → (i o : Lexeme) (n d : ℕ) (rest : List Lexeme) → Fits env (a ++ o ∷ rest) → Is p.Semicolon o → 16 * length (a ++ o ∷ rest) + 5 ≤ n
    → stmt_path (grammar.spelled (i ∷ a ++ o ∷ []) (return r)) ≤ d → return_at env n d i.span.first (a ++ o ∷ rest) ≡ Some (stmt_got (grammar.spelled (i ∷ a ++ o ∷ []) (return r)) (i ∷ a ++ o ∷ []) env rest)
result_there {env} no_result i o n d rest fits is room low = return_alone env n d i.span.first (i ∷ o ∷ []) rest o is (record { begins = refl; ends = refl; low = low })
result_there {env} (some_result {a = a} {r = r} q) i o n d rest fits is room low =
    return_goes env n d i.span.first (a ++ o ∷ rest) (i ∷ a ++ o ∷ []) rest o r (past_of a) (rhs_begins q (o ∷ rest))
    (rhs_there env (fits_few env (a ++ o ∷ rest) fits) q n (d - 1) (o ∷ rest) (ap closes is) room (omega (arith, low))) is
    (record { begins = refl; ends = past-append (i ∷ a) (o ∷ []) (omega arith); low = low })

-- a statement that is an effect begins with no word of a statement
effect_head : (env : Known) (n d : ℕ) (os : List Lexeme) → 1 ≤ n → 1 ≤ d → 1 ≤ length os → heads os ≡ h.Other → stmt_at env n d os ≡ effect_stmt_at env (n - 1) d (first_of os) os
effect_head env n d [] some high filled is = absurd (omega (arith, filled))
effect_head env n d (o ∷ os) some high filled is = stmt_head env n d o os h.Other some high is

-- ---- statements

mutual
  pub stmt_there : {earlier : List DeclTree} {env known : Known} {f : Bool} {a : List Lexeme} {s : StmtTree} → IsStmt earlier env f a s known → (n d : ℕ) (rest : List Lexeme) → Fits env (a ++ rest) → (f ≡ true → lacks m.Else rest ≡ true) → 16 * length (a ++ rest) + 44 ≤ n → stmt_path s ≤ d
      → stmt_at env n d (a ++ rest) ≡ Some (record { tree = s; known = known; past = past_of a; rest = rest })
  stmt_there (block_stmt {env = env} {known = known} {a = a} {ss = ss} i o is q shuts) n d rest fits off room low =
      let front : List Lexeme = i ∷ a ++ o ∷ [] in
      let os : List Lexeme = a ++ o ∷ rest in
      let parts : front ++ rest ≡ i ∷ os = append_assoc (i ∷ a) (o ∷ []) rest in
      let whole = ap length parts in
      let read = items_there q (n - 1) (d - 1) no_stmt o rest shuts (fits_less env (front ++ rest) os fits (omega (arith, whole))) (omega (arith, room, whole)) (omega (arith, low)) in
      ap (stmt_at env n d) parts
      ∙ stmt_head env n d i os h.Block (omega (arith, room)) (omega (arith, low)) (ap head_of is)
      ∙ block_goes (within_at (n - 1) (d - 1)) env known d i.span.first os front rest o ss read shuts (record { begins = refl; ends = past-append (i ∷ a) (o ∷ []) (omega arith); low = low })
  stmt_there (empty_stmt {env = env} o is) n d rest fits off room low =
      stmt_head env n d o rest h.Empty (omega (arith, room)) (omega (arith, low)) (ap head_of is) ∙ built d o.span.first o.span.past (o ∷ []) rest empty env refl refl low
  stmt_there (effect_stmt {env = env} {a = a} {e = x} o q is) n d rest fits off room low =
      let front : List Lexeme = a ++ o ∷ [] in
      let os : List Lexeme = a ++ o ∷ rest in
      let parts : front ++ rest ≡ os = append_assoc a (o ∷ []) rest in
      let whole = ap length parts in
      let f : Acting env os = effect_acting q (o ∷ rest) in
      let filled = effect_filled q in
      let read = effect_there env (fits_few env (front ++ rest) fits) q (n - 1) (d - 1) (o ∷ rest) (ap closes is) (omega (arith, room, whole)) (omega (arith, low)) in
      ap (stmt_at env n d) parts
      ∙ effect_head env n d os (omega (arith, room)) (omega (arith, low)) f.filled f.head
      ∙ effect_goes env (n - 1) d (first_of os) os front rest o x (past_of a) read is (record { begins = first-append a (o ∷ []) filled ∙ sym (first-append a (o ∷ rest) filled); ends = past-append a (o ∷ []) (omega arith); low = low })
  stmt_there (if_stmt {env = env} {known = known} {a = a} {c = c} {x = x} {s = s} i o w is opening q closing g) n d rest fits off room low =
      let front : List Lexeme = i ∷ o ∷ a ++ w ∷ c in
      let os : List Lexeme = o ∷ (a ++ w ∷ (c ++ rest)) in
      let parts : front ++ rest ≡ i ∷ os = append_assoc (i ∷ o ∷ a) (w ∷ c) rest in
      let whole = ap length parts in
      let long = length-append a (w ∷ (c ++ rest)) in
      let read = enclosed_there o w (fits_few env (front ++ rest) fits) opening q closing (n - 1) (d - 1) (c ++ rest) (omega (arith, room, whole)) (omega (arith, low)) in
      let then = stmt_there g (n - 1) (d - 1) rest (fits_less env (front ++ rest) (c ++ rest) fits (omega (arith, whole, long))) (λ e. off refl) (omega (arith, room, whole, long)) (omega (arith, low)) in
      ap (stmt_at env n d) parts
      ∙ stmt_head env n d i os h.If (omega (arith, room)) (omega (arith, low)) (ap head_of is)
      ∙ if_goes (inner_at (n - 1) (d - 1)) env known (n - 1) d i.span.first os (c ++ rest) front rest x s w.span.past (past_of c) read then (off refl) (record { begins = refl; ends = two_ends (i ∷ o ∷ a) c w (past_of c) (stmt_filled g) refl; low = low })
  stmt_there (if_else_stmt {env = env} {known = known} {later = later} {a = a} {c = c} {d = b} {x = x} {s = s} {u = u} i o w e is opening q closing g also r) n d rest fits off room low =
      let front : List Lexeme = i ∷ o ∷ a ++ w ∷ c ++ e ∷ b in
      let inner : List Lexeme = c ++ e ∷ (b ++ rest) in
      let os : List Lexeme = o ∷ (a ++ w ∷ inner) in
      let parts : front ++ rest ≡ i ∷ os = three_parts (i ∷ o ∷ a) (w ∷ c) (e ∷ b) rest in
      let whole = ap length parts in
      let long = length-append a (w ∷ inner) in
      let more = length-append c (e ∷ (b ++ rest)) in
      let fits1 = fits_less env (front ++ rest) inner fits (omega (arith, whole, long)) in
      let fits2 = fits_less known (e ∷ (b ++ rest)) (b ++ rest) (fits_after env known c (e ∷ (b ++ rest)) fits1 (stmt_grows g)) (omega arith) in
      let read = enclosed_there o w (fits_few env (front ++ rest) fits) opening q closing (n - 1) (d - 1) inner (omega (arith, room, whole)) (omega (arith, low)) in
      let then = stmt_there g (n - 1) (d - 1) (e ∷ (b ++ rest)) fits1 (λ bad. absurd cc) (omega (arith, room, whole, long)) (omega (arith, low)) in
      let other = stmt_there r (n - 1) (d - 1) rest fits2 off (omega (arith, room, whole, long, more)) (omega (arith, low)) in
      ap (stmt_at env n d) parts
      ∙ stmt_head env n d i os h.If (omega (arith, room)) (omega (arith, low)) (ap head_of is)
      ∙ else_goes (inner_at (n - 1) (d - 1)) env known (n - 1) d i.span.first os inner (b ++ rest) front rest e x s u w.span.past (past_of c) (past_of b) later read then also other
      (record { begins = refl; ends = two_ends (i ∷ o ∷ a ++ w ∷ c) b e (past_of b) (stmt_filled r) refl; low = low })
  stmt_there (while_stmt {env = env} {known = known} {a = a} {c = c} {x = x} {s = s} i o w is opening q closing g) n d rest fits off room low =
      let front : List Lexeme = i ∷ o ∷ a ++ w ∷ c in
      let os : List Lexeme = o ∷ (a ++ w ∷ (c ++ rest)) in
      let parts : front ++ rest ≡ i ∷ os = append_assoc (i ∷ o ∷ a) (w ∷ c) rest in
      let whole = ap length parts in
      let long = length-append a (w ∷ (c ++ rest)) in
      let read = enclosed_there o w (fits_few env (front ++ rest) fits) opening q closing (n - 1) (d - 1) (c ++ rest) (omega (arith, room, whole)) (omega (arith, low)) in
      let then = stmt_there g (n - 1) (d - 1) rest (fits_less env (front ++ rest) (c ++ rest) fits (omega (arith, whole, long))) off (omega (arith, room, whole, long)) (omega (arith, low)) in
      ap (stmt_at env n d) parts
      ∙ stmt_head env n d i os h.While (omega (arith, room)) (omega (arith, low)) (ap head_of is)
      ∙ while_goes (inner_at (n - 1) (d - 1)) env known (n - 1) d i.span.first os (c ++ rest) front rest x s w.span.past (past_of c) read then (record { begins = refl; ends = two_ends (i ∷ o ∷ a) c w (past_of c) (stmt_filled g) refl; low = low })
  stmt_there (do_stmt {env = env} {known = known} {a = a} {c = c} {x = x} {s = s} i w o u e is g again opening q closing ends) n d rest fits off room low =
      let front : List Lexeme = i ∷ a ++ w ∷ o ∷ c ++ u ∷ e ∷ [] in
      let test : List Lexeme = o ∷ (c ++ u ∷ e ∷ rest) in
      let os : List Lexeme = a ++ w ∷ test in
      let parts : front ++ rest ≡ i ∷ os = three_parts (i ∷ a) (w ∷ o ∷ c) (u ∷ e ∷ []) rest in
      let whole = ap length parts in
      let long = length-append a (w ∷ test) in
      let fits1 = fits_less env (front ++ rest) os fits (omega (arith, whole)) in
      let few = fits_few known (w ∷ test) (fits_after env known a (w ∷ test) fits1 (stmt_grows g)) in
      let read = stmt_there g (n - 1) (d - 1) (w ∷ test) fits1 (λ f. ap (λ (kind : LexemeKind). not (marks.fits m.Else kind)) again) (omega (arith, room, whole)) (omega (arith, low)) in
      let then = enclosed_there o u few opening q closing (n - 1) (d - 1) (e ∷ rest) (omega (arith, room, whole, long)) (omega (arith, low)) in
      ap (stmt_at env n d) parts
      ∙ stmt_head env n d i os h.Do (omega (arith, room)) (omega (arith, low)) (ap head_of is)
      ∙ do_goes (inner_at (n - 1) (d - 1)) env known (n - 1) d i.span.first os test front rest w e s x (past_of a) u.span.past read again then ends
      (record { begins = refl; ends = past-append (i ∷ a ++ w ∷ o ∷ c) (u ∷ e ∷ []) (omega arith); low = low })
  stmt_there (for_stmt {env = env} {known = known} {later = later} {a = a} {c = c} {d = b} {r = r} {init = init} {x = x} {es = es} {s = s} i o w e is opening first test ends steps closing g) n d rest fits off room low =
      let front : List Lexeme = i ∷ o ∷ a ++ c ++ w ∷ b ++ e ∷ r in
      let last : List Lexeme = b ++ e ∷ (r ++ rest) in
      let tests : List Lexeme = c ++ w ∷ last in
      let os : List Lexeme = o ∷ (a ++ tests) in
      let parts : front ++ rest ≡ i ∷ os = append_assoc (i ∷ o ∷ a ++ c ++ w ∷ b) (e ∷ r) rest ∙ three_parts (i ∷ o ∷ a) c (w ∷ b) (e ∷ (r ++ rest)) in
      let whole = ap length parts in
      let long = length-append a tests in
      let more = length-append c (w ∷ last) in
      let most = length-append b (e ∷ (r ++ rest)) in
      let fits1 = fits_less env (front ++ rest) (a ++ tests) fits (omega (arith, whole)) in
      let fits2 = fits_less known tests (r ++ rest) (fits_after env known a tests fits1 (init_grows first)) (omega (arith, more, most)) in
      let read = header_there o w e opening first test ends steps closing (n - 1) (d - 1) (r ++ rest) fits1 (omega (arith, room, whole)) (omega (arith, low)) (omega (arith, low)) (omega (arith, low)) in
      let then = stmt_there g (n - 1) (d - 1) rest fits2 off (omega (arith, room, whole, long, more, most)) (omega (arith, low)) in
      ap (stmt_at env n d) parts
      ∙ stmt_head env n d i os h.For (omega (arith, room)) (omega (arith, low)) (ap head_of is)
      ∙ for_goes (inner_at (n - 1) (d - 1)) env known (n - 1) d i.span.first os (r ++ rest) front rest (record { init = init; test = x; steps = es }) s (past_of r) later read then
      (record { begins = refl; ends = two_ends (i ∷ o ∷ a ++ c ++ w ∷ b) r e (past_of r) (stmt_filled g) refl; low = low })
  stmt_there (switch_stmt {env = env} {known = known} {a = a} {c = c} {x = x} {gs = gs} i o w e u is opening q closing begins g shuts) n d rest fits off room low =
      let front : List Lexeme = i ∷ o ∷ a ++ w ∷ e ∷ c ++ u ∷ [] in
      let inner : List Lexeme = c ++ u ∷ rest in
      let os : List Lexeme = o ∷ (a ++ w ∷ e ∷ inner) in
      let parts : front ++ rest ≡ i ∷ os = three_parts (i ∷ o ∷ a) (w ∷ e ∷ c) (u ∷ []) rest in
      let whole = ap length parts in
      let long = length-append a (w ∷ e ∷ inner) in
      let read = enclosed_there o w (fits_few env (front ++ rest) fits) opening q closing (n - 1) (d - 1) (e ∷ inner) (omega (arith, room, whole)) (omega (arith, low)) in
      let then = groups_there g (n - 1) (d - 1) no_group u rest shuts (fits_less env (front ++ rest) inner fits (omega (arith, whole, long))) (omega (arith, room, whole, long)) (omega (arith, low)) in
      ap (stmt_at env n d) parts
      ∙ stmt_head env n d i os h.Switch (omega (arith, room)) (omega (arith, low)) (ap head_of is)
      ∙ switch_goes (cases_at (n - 1) (d - 1)) env known (n - 1) d i.span.first os inner front rest e u x gs w.span.past read begins then shuts
      (record { begins = refl; ends = past-append (i ∷ o ∷ a ++ w ∷ e ∷ c) (u ∷ []) (omega arith); low = low })
  stmt_there (break_stmt {env = env} i o is ends) n d rest fits off room low =
      stmt_head env n d i (o ∷ rest) h.Break (omega (arith, room)) (omega (arith, low)) (ap head_of is) ∙ jump_there env i o break d rest ends low
  stmt_there (continue_stmt {env = env} i o is ends) n d rest fits off room low =
      stmt_head env n d i (o ∷ rest) h.Continue (omega (arith, room)) (omega (arith, low)) (ap head_of is) ∙ jump_there env i o continue d rest ends low
  stmt_there (return_stmt {env = env} {a = a} {r = r} i o is q ends) n d rest fits off room low =
      let front : List Lexeme = i ∷ a ++ o ∷ [] in
      let os : List Lexeme = a ++ o ∷ rest in
      let parts : front ++ rest ≡ i ∷ os = append_assoc (i ∷ a) (o ∷ []) rest in
      let whole = ap length parts in
      ap (stmt_at env n d) parts
      ∙ stmt_head env n d i os h.Return (omega (arith, room)) (omega (arith, low)) (ap head_of is)
      ∙ result_there q i o (n - 1) d rest (fits_less env (front ++ rest) os fits (omega (arith, whole))) ends (omega (arith, room, whole)) low

  -- up to the brace that ends a block
  pub items_there : {earlier : List DeclTree} {env known : Known} {a : List Lexeme} {ss : StmtTrees} → AreBlockItems earlier env a ss known → (n d : ℕ) (all : StmtTrees) (e : Lexeme) (rest : List Lexeme) → Is p.CloseBrace e → Fits env (a ++ e ∷ rest) → 16 * length (a ++ e ∷ rest) + 45 ≤ n → stmts_path ss ≤ d
      → items_at env n d all (a ++ e ∷ rest) ≡ Some (listed (all_of all ss) known (e ∷ rest))
  items_there (no_item {env = env}) n d all e rest is fits room low = items_end env n d all e rest (omega (arith, room)) is ∙ ap (λ (v : StmtTrees). Some (listed v env (e ∷ rest))) (sym (all_none all))
  items_there (local_item {env = env} {known = known} {later = later} {a = a} {c = c} {ss = ss} {us = us} s q) n d all e rest is fits room low =
      let tail : List Lexeme = c ++ e ∷ rest in
      let parts : (a ++ c) ++ e ∷ rest ≡ a ++ tail = append_assoc a c (e ∷ rest) in
      let whole = ap length parts in
      let long = length-append a tail in
      let f = local_declaring s tail in
      let high = all_path ss us in
      let filled = local_filled s in
      let fits1 = fits_less env ((a ++ c) ++ e ∷ rest) (a ++ tail) fits (omega (arith, whole)) in
      let read = local_there s (n - 1) d all tail fits1 (omega (arith, room, whole)) (omega (arith, low, high)) in
      ap (items_at env n d all) parts
      ∙ items_local env n d all (a ++ tail) (listed (all_of all ss) known tail) (omega (arith, room)) f.brace f.local read
      ∙ items_there q (n - 1) d (all_of all ss) e rest is (fits_after env known a tail fits1 (local_grows s)) (omega (arith, room, whole, long, filled)) (omega (arith, low, high))
      ∙ ap (λ (v : StmtTrees). Some (listed v later (e ∷ rest))) (all_assoc all ss us)
  items_there (stmt_item {env = env} {known = known} {later = later} {a = a} {c = c} {s = x} {ss = us} s q) n d all e rest is fits room low =
      let tail : List Lexeme = c ++ e ∷ rest in
      let parts : (a ++ c) ++ e ∷ rest ≡ a ++ tail = append_assoc a c (e ∷ rest) in
      let whole = ap length parts in
      let long = length-append a tail in
      let f = stmt_stating s tail in
      let filled = stmt_filled s in
      let fits1 = fits_less env ((a ++ c) ++ e ∷ rest) (a ++ tail) fits (omega (arith, whole)) in
      let read = stmt_there s (n - 1) d tail fits1 (λ g. items_no_else q e rest is) (omega (arith, room, whole)) (omega (arith, low)) in
      ap (items_at env n d all) parts
      ∙ items_stmt env n d all (a ++ tail) (stmt_got x a known tail) (omega (arith, room)) f.brace f.local read
      ∙ items_there q (n - 1) d (push all x) e rest is (fits_after env known a tail fits1 (stmt_grows s)) (omega (arith, room, whole, long, filled)) (omega (arith, low))
      ∙ ap (λ (v : StmtTrees). Some (listed v later (e ∷ rest))) (all_push all x us)

  -- up to a brace or a label
  pub stmts_there : {earlier : List DeclTree} {env known : Known} {a : List Lexeme} {ss : StmtTrees} → AreStmts earlier env a ss known → (n d : ℕ) (all : StmtTrees) (rest : List Lexeme) → ends_stmts rest ≡ true → Fits env (a ++ rest) → 16 * length (a ++ rest) + 45 ≤ n → stmts_path ss ≤ d
      → stmts_at env n d all (a ++ rest) ≡ Some (listed (all_of all ss) known rest)
  stmts_there (no_more {env = env}) n d all rest ends fits room low = stmts_end env n d all rest (omega (arith, room)) ends ∙ ap (λ (v : StmtTrees). Some (listed v env rest)) (sym (all_none all))
  stmts_there (more {env = env} {known = known} {later = later} {a = a} {c = c} {s = x} {ss = us} s q) n d all rest ends fits room low =
      let tail : List Lexeme = c ++ rest in
      let parts : (a ++ c) ++ rest ≡ a ++ tail = append_assoc a c rest in
      let whole = ap length parts in
      let long = length-append a tail in
      let f = stmt_stating s tail in
      let filled = stmt_filled s in
      let fits1 = fits_less env ((a ++ c) ++ rest) (a ++ tail) fits (omega (arith, whole)) in
      let read = stmt_there s (n - 1) d tail fits1 (λ g. stmts_no_else q rest ends) (omega (arith, room, whole)) (omega (arith, low)) in
      ap (stmts_at env n d all) parts
      ∙ stmts_more env n d all (a ++ tail) (stmt_got x a known tail) (omega (arith, room)) f.filled f.brace f.label read
      ∙ stmts_there q (n - 1) d (push all x) rest ends (fits_after env known a tail fits1 (stmt_grows s)) (omega (arith, room, whole, long, filled)) (omega (arith, low))
      ∙ ap (λ (v : StmtTrees). Some (listed v later rest)) (all_push all x us)

  -- up to the brace that ends a `switch`
  pub groups_there : {earlier : List DeclTree} {env known : Known} {a : List Lexeme} {gs : GroupTrees} → AreGroups earlier env a gs known → (n d : ℕ) (all : GroupTrees) (e : Lexeme) (rest : List Lexeme) → Is p.CloseBrace e → Fits env (a ++ e ∷ rest) → 16 * length (a ++ e ∷ rest) + 44 ≤ n → groups_path gs ≤ d
      → groups_at env n d all (a ++ e ∷ rest) ≡ Some (listed (all_groups all gs) known (e ∷ rest))
  groups_there (no_groups {env = env}) n d all e rest is fits room low = groups_end env n d all e rest (omega (arith, room)) is ∙ ap (λ (v : GroupTrees). Some (listed v env (e ∷ rest))) (sym (groups_none all))
  groups_there (last_group {env = env} {known = known} {a = a} {c = c} {ls = ls} {ss = ss} labels q) n d all e rest is fits room low =
      let ts : List Lexeme = e ∷ rest in
      let inner : List Lexeme = c ++ ts in
      let parts : (a ++ c) ++ ts ≡ a ++ inner = append_assoc a c ts in
      let whole = ap length parts in
      let long = length-append a inner in
      let filled = labels_filled labels in
      let begins : begins_label (a ++ inner) ≡ true = labels_begin labels inner in
      let no_label : begins_label inner ≡ false = stmts_no_label q ts (λ f. ap (λ (kind : LexemeKind). is_label (label_of kind)) is) in
      let read = labels_there env (fits_few env ((a ++ c) ++ ts) fits) labels (n - 1) d [] inner no_label (omega (arith, room, whole)) (omega (arith, low)) in
      let then = stmts_there q (n - 1) d no_stmt ts (ap ends_group is) (fits_less env ((a ++ c) ++ ts) inner fits (omega (arith, whole, long))) (omega (arith, room, whole, long, filled)) (omega (arith, low)) in
      ap (groups_at env n d all) parts
      ∙ groups_more env n d all (a ++ inner) inner ts ls ss known (omega (arith, room)) (label_no_brace (a ++ inner) begins) read then
      ∙ groups_end known (n - 1) d (push_group all ls ss) e rest (omega (arith, room)) is
      ∙ ap (λ (v : GroupTrees). Some (listed v known ts)) (sym (groups_none (push_group all ls ss)) ∙ groups_push all ls ss no_group)
  groups_there (also_groups {env = env} {known = known} {later = later} {a = a} {c = c} {d = b} {ls = ls} {ss = ss} {gs = gs} labels q some also r) n d all e rest is fits room low =
      let ts : List Lexeme = b ++ e ∷ rest in
      let inner : List Lexeme = c ++ ts in
      let parts : (a ++ c ++ b) ++ e ∷ rest ≡ a ++ inner = three_parts a c b (e ∷ rest) in
      let whole = ap length parts in
      let long = length-append a inner in
      let longer = length-append c ts in
      let filled = labels_filled labels in
      let begins : begins_label (a ++ inner) ≡ true = labels_begin labels inner in
      let on : begins_label ts ≡ true = groups_begin r also (e ∷ rest) in
      let no_label : begins_label inner ≡ false = stmts_no_label q ts (λ f. absurd (not_both_ways (some_stmt ss) some f)) in
      let fits1 = fits_less env ((a ++ c ++ b) ++ e ∷ rest) inner fits (omega (arith, whole, long)) in
      let read = labels_there env (fits_few env ((a ++ c ++ b) ++ e ∷ rest) fits) labels (n - 1) d [] inner no_label (omega (arith, room, whole)) (omega (arith, low)) in
      let then = stmts_there q (n - 1) d no_stmt ts (label_ends ts on) fits1 (omega (arith, room, whole, long, filled)) (omega (arith, low)) in
      ap (groups_at env n d all) parts
      ∙ groups_more env n d all (a ++ inner) inner ts ls ss known (omega (arith, room)) (label_no_brace (a ++ inner) begins) read then
      ∙ groups_there r (n - 1) d (push_group all ls ss) e rest is (fits_after env known c ts fits1 (stmts_grow q)) (omega (arith, room, whole, long, longer, filled)) (omega (arith, low))
      ∙ ap (λ (v : GroupTrees). Some (listed v later (e ∷ rest))) (groups_push all ls ss gs)
