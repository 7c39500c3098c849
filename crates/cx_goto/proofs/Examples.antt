-- The step of block code on small codes.
use Rattle.std.proofs.Common.{◌≡◌, refl, ℕ, arith, List, [], ◌∷◌, Some, None, true, false}
use Rattle.std.specs.Prelude.{pos, ◌==◌}
use Rattle.cx_base.specs.Number.{half_of}
use Rattle.cx_base.specs.declared.fault.FaultKind.TheVariants as fault
use Rattle.cx_base.specs.declared.memory.Region.{Region}
use Rattle.cx_base.specs.declared.span.Span.{Span}
use Rattle.cx_cells.specs.declared.script.Change.{Change}
use Rattle.cx_ctree.specs.Conversions.{signed_int, unsigned_long}
use Rattle.cx_goto.specs.declared.code.End.{End}
use Rattle.cx_goto.specs.declared.code.End.TheVariants.{Branch, Return, Missing}
use Rattle.cx_goto.specs.declared.code.Op.TheVariants.{Add, Div}
use Rattle.cx_goto.specs.declared.code.Rel.TheVariants.{Lt}
use Rattle.cx_goto.specs.Machine.{ended, unfinished, run_of}
use Rattle.cx_goto.specs.Trees.{InstrTree, const, copy, bin, load, store, call, LineTree, BlockTree, CodeTree}
use Rattle.cx_world.specs.Oracle.{Oracle}
use Rattle.cx_world.specs.World.{World, Event, reads, writes, returned, faulted, turns_spent, blocked, others}

abbrev here : Span
here = record { first = 0; past = 1; ordered = omega arith }

abbrev line : InstrTree → LineTree
line i = record { instr = i; span = here }

abbrev block : List LineTree → End → BlockTree
block lines end = record { keep = 3; lines = lines; end = end; span = here }

-- a function of one parameter with two other locals
abbrev code : List BlockTree → CodeTree
code blocks = record { name_span = here; params = 1; named = 3; locals = 3; result = Some unsigned_long; blocks = blocks }

-- regions of type 7 are shared, function 3 may be called, and nothing else is known
abbrev oracle : Oracle
oracle = record {
  is_shared = λ n. n == 7;
  is_memory = λ rs. true;
  holds = λ rs i. true;
  may_call = λ name args rs. name == 3;
  may_answer = λ name args rs given after. true;
  is_allocator = λ name. false;
  asked = λ name pointee args. None;
  global = λ name. None;
}

abbrev region : ℕ → ℕ → Region
region name n = record { base = 4096; name = name; args = []; bytes = n ∷ 0 ∷ 0 ∷ 0 ∷ 0 ∷ 0 ∷ 0 ∷ 0 ∷ [] }

abbrev world : List Region → List Change → List Event → World
world rs cs log = record { memory = rs; script = record { answers = []; blocks = []; changes = cs }; log = log }

abbrev rewrite : ℕ → Change
rewrite n = record { rewrites = record { region = 0; bytes = n ∷ 0 ∷ 0 ∷ 0 ∷ 0 ∷ 0 ∷ 0 ∷ 0 ∷ [] } ∷ []; added = [] }

-- *p += 5; return *p before the sum, and the sum
abbrev adds : CodeTree
adds = code (block (line (load 1 unsigned_long 0) ∷ line (const 2 (pos 5)) ∷ line (bin 1 Add unsigned_long 1 2) ∷ line (store unsigned_long 0 1) ∷ []) (Return (Some 1)) ∷ [])

abbrev read_of : ℕ → ℕ → Event
read_of name n = reads (record { span = here; address = pos 4096; size = 8; memory = region name n ∷ [] })

abbrev write_of : ℕ → ℕ → Event
write_of name n = writes (record { span = here; address = pos 4096; size = 8; memory = region name n ∷ [] })

sum : run_of oracle adds 9 (pos 4096 ∷ []) 0 (world (region 5 1 ∷ []) [] []) ≡ ended (returned (Some (pos 6))) 0 (world (region 5 6 ∷ []) [] (read_of 5 1 ∷ write_of 5 6 ∷ []))
unfolding half_of others
sum = refl

-- others change the region before the read, and between the read and the write
sum_among_others :
    run_of oracle adds 9 (pos 4096 ∷ []) 0 (world (region 7 1 ∷ []) (rewrite 2 ∷ rewrite 3 ∷ []) []) ≡ ended (returned (Some (pos 7))) 0 (world (region 7 7 ∷ []) [] (read_of 7 2 ∷ write_of 7 7 ∷ []))
unfolding half_of others
sum_among_others = refl

-- they cannot change a region that is not shared
no_change : run_of oracle adds 9 (pos 4096 ∷ []) 0 (world (region 5 1 ∷ []) (rewrite 2 ∷ []) []) ≡ ended blocked 0 (world (region 5 1 ∷ []) (rewrite 2 ∷ []) [])
unfolding half_of others
no_change = refl

outside : run_of oracle adds 9 (pos 4097 ∷ []) 0 (world (region 5 1 ∷ []) [] []) ≡ ended (faulted fault.Access here) 0 (world (region 5 1 ∷ []) [] [])
unfolding half_of others
outside = refl

unset : run_of oracle (code (block (line (copy 1 2) ∷ []) (Return None) ∷ [])) 9 (pos 0 ∷ []) 0 (world [] [] []) ≡ ended (faulted fault.Unset here) 0 (world [] [] [])
unset = refl

quotient : run_of oracle (code (block (line (const 1 (pos 0)) ∷ line (bin 1 Div signed_int 0 1) ∷ []) (Return None) ∷ [])) 9 (pos 6 ∷ []) 0 (world [] [] []) ≡ ended (faulted fault.Divisor here) 0 (world [] [] [])
unfolding half_of
quotient = refl

-- do x = x + 1; while (x < 3);
abbrev counts : CodeTree
counts = code (block (line (const 1 (pos 1)) ∷ line (const 2 (pos 3)) ∷ line (bin 0 Add signed_int 0 1) ∷ []) (Branch Lt 0 2 0 1) ∷ block [] Missing ∷ [])

counted : run_of oracle counts 20 (pos 0 ∷ []) 2 (world [] [] []) ≡ ended (faulted fault.End here) 0 (world [] [] [])
unfolding half_of
counted = refl

spent : run_of oracle counts 20 (pos 0 ∷ []) 1 (world [] [] []) ≡ ended turns_spent 0 (world [] [] [])
unfolding half_of
spent = refl

not_yet : run_of oracle counts 3 (pos 0 ∷ []) 1 (world [] [] []) ≡ unfinished
unfolding half_of
not_yet = refl

-- a call for which the script has no answer, and one of a function without a type
abbrev calling : ℕ → CodeTree
calling name = code (block (line (call 1 name (0 ∷ []) None) ∷ []) (Return (Some 1)) ∷ [])

unanswered : run_of oracle (calling 3) 9 (pos 0 ∷ []) 0 (world [] [] []) ≡ ended blocked 0 (world [] [] [])
unfolding others
unanswered = refl

untyped : run_of oracle (calling 2) 9 (pos 0 ∷ []) 0 (world [] [] []) ≡ ended (faulted fault.Call here) 0 (world [] [] [])
unfolding others
untyped = refl
