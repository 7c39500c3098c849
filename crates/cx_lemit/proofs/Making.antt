-- What one line or block more makes.
use Rattle.std.proofs.Common.{◌≡◌, ℕ, ◌+◌, ◌<◌, ◌≤◌, List, [], ◌∷◌, ◌++◌, map, Some, None, refl, ap, ◌∙◌, arith, append_assoc}
use Rattle.std.specs.Prelude.{nat_le, if◌then◌else◌}
use Rattle.std.proofs.lemmas.Bool.{lt-leb}
use Rattle.std.proofs.lemmas.List.{map-append}
use Rattle.cx_base.specs.declared.span.Span.{Span}
use Rattle.cx_goto.specs.Trees.{LineTree, BlockTree, line_tree, block_tree}
use Rattle.cx_goto.specs.declared.code.Block.{Block}
use Rattle.cx_goto.specs.declared.code.End.{End}
use Rattle.cx_goto.specs.declared.code.Line.{Line}
use Rattle.cx_lcode.specs.Items.{Item, line, start, blocks_of}
use Rattle.cx_lemit.specs.Made.{lines_in, made, Emits}
use Rattle.cx_lemit.specs.declared.builder.Builder.{Builder}

same : (c k : ℕ) (bs cs : List BlockTree) → c ≡ k → bs ≡ cs → (if nat_le c 4096 then Some bs else None) ≡ (if nat_le k 4096 then Some cs else None)
same c k bs cs e f = cc

neither : (c k : ℕ) (bs cs : List BlockTree) → 4096 < c → 4096 < k → (if nat_le c 4096 then Some bs else None) ≡ (if nat_le k 4096 then Some cs else None)
neither c k bs cs g h = let e = lt-leb c 4096 g in let f = lt-leb k 4096 h in cc

blocks_with : (bs cs : List BlockTree) (keep keep' : ℕ) (ls ls' : List LineTree) (rest : List Item) (e : End) (s : Span) → bs ≡ cs → keep ≡ keep' → ls ≡ ls' → bs ++ blocks_of keep ls rest e s ≡ cs ++ blocks_of keep' ls' rest e s
blocks_with bs cs keep keep' ls ls' rest e s f g h = cc

-- a line is kept
pub line_makes : (b n : Builder) (l : Line) → n.blocks ≡ b.blocks → n.keep ≡ b.keep → n.lines ≡ b.lines ++ l ∷ [] → n.count ≡ b.count + 1 → Emits b n (λ rest. line (line_tree l) ∷ rest)
unfolding made
line_makes b n l eb ek el ec = record {
  by = λ rest e s.
      let lines : map line_tree n.lines ≡ map line_tree b.lines ++ line_tree l ∷ [] = ap (map line_tree) el ∙ map-append line_tree b.lines (l ∷ []) in
      same (n.count + lines_in rest) (b.count + (lines_in rest + 1)) (map block_tree n.blocks ++ blocks_of n.keep (map line_tree n.lines) rest e s) (map block_tree b.blocks ++ blocks_of b.keep (map line_tree b.lines ++ line_tree l ∷ []) rest e s)
      (omega (arith, ec)) (blocks_with (map block_tree n.blocks) (map block_tree b.blocks) n.keep b.keep (map line_tree n.lines) (map line_tree b.lines ++ line_tree l ∷ []) rest e s (ap (map block_tree) eb) ek lines);
}

-- there are too many lines already
pub skip_makes : (b n : Builder) (l : LineTree) → 4096 ≤ b.count → 4096 < n.count → Emits b n (λ rest. line l ∷ rest)
unfolding made
skip_makes b n l old new = record {
  by = λ rest e s.
      neither (n.count + lines_in rest) (b.count + (lines_in rest + 1)) (map block_tree n.blocks ++ blocks_of n.keep (map line_tree n.lines) rest e s) (map block_tree b.blocks ++ blocks_of b.keep (map line_tree b.lines ++ l ∷ []) rest e s)
      (omega (arith, new)) (omega (arith, old));
}

pushed : (bs : List Block) (k : Block) (more : List BlockTree) → map block_tree (bs ++ k ∷ []) ++ more ≡ map block_tree bs ++ block_tree k ∷ more
pushed bs k more = ap (λ x. x ++ more) (map-append block_tree bs (k ∷ [])) ∙ append_assoc (map block_tree bs) (block_tree k ∷ []) more

-- the open block is ended
pub start_makes : (b n : Builder) (k : Block) → n.blocks ≡ b.blocks ++ k ∷ [] → n.lines ≡ [] → n.count ≡ b.count → k.keep ≡ b.keep → k.lines ≡ b.lines → Emits b n (λ rest. start k.end k.span n.keep ∷ rest)
unfolding made
start_makes b n k eb el ec ek kl = record {
  by = λ rest e s.
      let more = blocks_of n.keep [] rest e s in
      let one : block_tree k ≡ record { keep = b.keep; lines = map line_tree b.lines; end = k.end; span = k.span } = cc in
      let blocks : map block_tree n.blocks ≡ map block_tree (b.blocks ++ k ∷ []) = ap (map block_tree) eb in
      let lines : map line_tree n.lines ≡ [] = ap (map line_tree) el in
      same (n.count + lines_in rest) (b.count + lines_in rest) (map block_tree n.blocks ++ blocks_of n.keep (map line_tree n.lines) rest e s) (map block_tree b.blocks ++ record { keep = b.keep; lines = map line_tree b.lines; end = k.end; span = k.span } ∷ more)
      (omega (arith, ec))
      (blocks_with (map block_tree n.blocks) (map block_tree (b.blocks ++ k ∷ [])) n.keep n.keep (map line_tree n.lines) [] rest e s blocks refl lines
      ∙ pushed b.blocks k more ∙ ap (λ x. map block_tree b.blocks ++ x ∷ more) one);
}
