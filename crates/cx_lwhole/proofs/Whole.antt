-- The blocks and locals that the code of a function names are there.
use Rattle.std.proofs.Common.{ℕ, ◌≡◌, ◌<◌, ◌≤◌, Bool, List, [], ◌∷◌, map, length, Option, Some, None, is_some, refl, sym, ap, ◌∙◌, subst, arith}
use Rattle.std.specs.Prelude.{All, max}
use Rattle.std.proofs.lemmas.List.{length-map}
use Rattle.std.proofs.lemmas.List.Elements.{All-nil, All-cons, All-head, All-tail}
use Rattle.cx_base.specs.declared.number.CInt.{CInt}
use Rattle.cx_ctree.specs.Types.{TypeTree, void, int, pointer, array, tag}
use Rattle.cx_gline.proofs.Keeping.{EndKeeps, BlockKeeps}
use Rattle.cx_gline.proofs.Whole.{Any, any_allowed, body_keeps}
use Rattle.cx_goto.specs.Trees.{CodeTree, instr_tree, line_tree, block_tree}
use Rattle.cx_goto.specs.Whole.{LocalsIn, ReturnIn, EndIn, BlockIn}
use Rattle.cx_goto.specs.declared.code.Block.{Block}
use Rattle.cx_goto.specs.declared.code.End.{End}
use Rattle.cx_goto.specs.declared.code.End.TheVariants.{Jump, Branch, Return, Missing}
use Rattle.cx_goto.specs.declared.code.Instr.{Instr}
use Rattle.cx_goto.specs.declared.code.Instr.TheVariants.{Const, Copy, Unset, Global, Bin, Conv, Load, Store, Call}
use Rattle.cx_goto.specs.declared.code.Line.{Line}
use Rattle.cx_lcode.specs.Lowered.{past_all, instr_past, end_past, lines_past, blocks_past, result_of, last_end, lowered}
use Rattle.cx_lwhole.proofs.Last.{last_is_there}
use Rattle.cx_lwhole.specs.Law.{CodeIsWhole}
use Rattle.cx_sname.specs.File.{Declared}

-- ---- locals

args_in : (n : ℕ) (xs : List ℕ) → past_all xs ≤ n → All (λ x. x < n) xs
args_in n [] h = All-nil (λ x. x < n)
args_in n (x ∷ xs) h = All-cons (λ x. x < n) x xs (omega (arith, h)) (args_in n xs (omega (arith, h)))

locals_in : (n : ℕ) (i : Instr) → instr_past (instr_tree i) ≤ n → LocalsIn n i
locals_in n (Const d v) h = omega (arith, h)
locals_in n (Copy d x) h = (omega (arith, h), omega (arith, h))
locals_in n (Unset d) h = omega (arith, h)
locals_in n (Global d name) h = omega (arith, h)
locals_in n (Bin d op t x y) h = (omega (arith, h), omega (arith, h), omega (arith, h))
locals_in n (Conv d t) h = omega (arith, h)
locals_in n (Load d t a) h = (omega (arith, h), omega (arith, h))
locals_in n (Store t a x) h = (omega (arith, h), omega (arith, h))
locals_in n (Call d name args pointee) h = (omega (arith, h), args_in n args (omega (arith, h)))

lines_in : (n : ℕ) (ls : List Line) → lines_past (map line_tree ls) ≤ n → All (λ l. LocalsIn n l.instr) ls
lines_in n [] h = All-nil (λ (l : Line). LocalsIn n l.instr)
lines_in n (l ∷ ls) h = All-cons (λ (l : Line). LocalsIn n l.instr) l ls (locals_in n l.instr (omega (arith, h))) (lines_in n ls (omega (arith, h)))

-- ---- ends

abbrev Agrees : Option CInt → Bool → Type 0
Agrees r z = z ≡ is_some r

return_in : (n : ℕ) (r : Option CInt) (x : Option ℕ) → is_some x ≡ is_some r → end_past (Return x) ≤ n → ReturnIn n r x
return_in n None None e h = tt
return_in n None (Some x) e h = absurd cc
return_in n (Some t) None e h = absurd cc
return_in n (Some t) (Some x) e h = omega (arith, h)

end_in : (m n : ℕ) (r : Option CInt) (e : End) → EndKeeps (Agrees r) m e → end_past e ≤ n → EndIn m n r e
end_in m n r (Jump to) k h = k
end_in m n r (Branch rel x y a b) k h = (omega (arith, h), omega (arith, h), k.0, k.1)
end_in m n r (Return x) k h = return_in n r x k h
end_in m n r Missing k h = sym k

last_agrees : (t : TypeTree) (m : ℕ) → EndKeeps (Agrees (result_of t)) m (last_end t)
last_agrees void m = refl
last_agrees (int t) m = refl
last_agrees (pointer t) m = refl
last_agrees (array t n) m = refl
last_agrees (tag k) m = refl

-- ---- blocks

module _ (d : Declared) (m n : ℕ) (r : Option CInt) where
  block_in : (b : Block) → BlockKeeps d Any (Agrees r) m (block_tree b) → max (lines_past (map line_tree b.lines)) (end_past b.end) ≤ n → BlockIn m n r b
  block_in b k h = record { lines = lines_in n b.lines (omega (arith, h)); end = end_in m n r b.end k.end (omega (arith, h)) }

  blocks_in : (bs : List Block) → All (BlockKeeps d Any (Agrees r) m) (map block_tree bs) → blocks_past (map block_tree bs) ≤ n → All (BlockIn m n r) bs
  blocks_in [] k h = All-nil (BlockIn m n r)
  blocks_in (b ∷ bs) k h =
      All-cons (BlockIn m n r) b bs (block_in b (All-head (BlockKeeps d Any (Agrees r) m) (block_tree b) (map block_tree bs) k) (omega (arith, h)))
      (blocks_in bs (All-tail (BlockKeeps d Any (Agrees r) m) (block_tree b) (map block_tree bs) k) (omega (arith, h)))

-- ---- the code

low : (p q n l : ℕ) → n ≡ max l q → p ≡ q → p ≤ n
low p q n l e f = omega (arith, e, f)

named_low : (a n l q : ℕ) → a ≡ l → n ≡ max l q → a ≤ n
named_low a n l q e f = omega (arith, e, f)

params_low : (p a k l : ℕ) → p ≡ k → a ≡ l → k ≤ l → p ≤ a
params_low p a k l e f h = omega (arith, e, f, h)

pub code_is_whole : CodeIsWhole
code_is_whole d tokens f code fine agree e =
    let whole = lowered d tokens f in let r = result_of f.sig.result in
    let same = ap (λ (k : CodeTree). k.blocks) e in
    let many : length code.blocks ≡ length whole.blocks = sym (length-map code.blocks block_tree) ∙ ap length same in
    let there = last_is_there d tokens f fine in
    let keeps = body_keeps d Any (Agrees r) tokens f (length code.blocks) (any_allowed d) fine (λ k v lt. tt) agree (last_agrees f.sig.result (length code.blocks)) (omega (arith, many, there)) in
    let locals = ap (λ (k : CodeTree). k.locals) e in
    let each = blocks_in d (length code.blocks) code.locals r code.blocks (subst (λ bs. All (BlockKeeps d Any (Agrees r) (length code.blocks)) bs) (sym same) keeps)
    (low (blocks_past (map block_tree code.blocks)) (blocks_past whole.blocks) code.locals (length f.locals) locals (ap blocks_past same)) in
    record {
      begins = omega (arith, many, there);
      params = params_low code.params code.named (length f.sig.params) (length f.locals) (ap (λ (k : CodeTree). k.params) e) (ap (λ (k : CodeTree). k.named) e) fine.0;
      named = named_low code.named code.locals (length f.locals) (blocks_past whole.blocks) (ap (λ (k : CodeTree). k.named) e) locals;
      each = subst (λ (o : Option CInt). All (BlockIn (length code.blocks) code.locals o) code.blocks) (sym (ap (λ (k : CodeTree). k.result) e)) each;
    }
