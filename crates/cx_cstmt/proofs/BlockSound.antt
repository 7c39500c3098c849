-- What is read as a block is spelled so.
use Rattle.std.proofs.Common.{◌≡◌, ℕ, zero, suc, ◌-◌, ◌≤◌, List, [], ◌∷◌, ◌++◌, Option, Some, refl, sym, ap, ◌∙◌, subst, arith}
use Rattle.std.specs.Prelude.{nat_eq}
use Rattle.cx_base.specs.declared.span.Span.{Span}
use Rattle.cx_ctree.specs.Stmts.{StmtTree, stmt, block, StmtTrees, no_stmt}
use Rattle.cx_ctree.specs.Decls.{DeclTree}
use Rattle.cx_ctree.specs.Path.{stmt_path}
use Rattle.cx_cword.specs.declared.lexeme.Lexeme.{Lexeme}
use Rattle.cx_cword.specs.declared.lexeme.LexemeKind.{LexemeKind}
use Rattle.cx_cword.specs.declared.word.Punctuator.TheVariants as p
use Rattle.cx_cword.specs.Reading.{Is, ◌>>=◌}
use Rattle.cx_cname.specs.Known.{Known}
use Rattle.cx_cexpr.proofs.Spans.{past-append, spanned}
use Rattle.cx_cexpr.proofs.Steps.{bind_some}
use Rattle.cx_cword.specs.declared.mark.Mark.TheVariants as m
use Rattle.cx_cstmt.specs.declared.kinds.Head.{Head}
use Rattle.cx_cstmt.specs.Kinds.{head_of}
use Rattle.cx_cstmt.specs.Statements as grammar
use Rattle.cx_cstmt.specs.Statements.{AreBlockItems}
use Rattle.cx_cstmt.specs.Reading.{Got, made, spelled, block_ends, stmt_by, stmt_at, items_at, groups_at, block_at}
use Rattle.cx_cstmt.proofs.Steps.{made_some, Marked, next_some, two_parts}
use Rattle.cx_cstmt.proofs.Sound.{not_none, FoundItems, items_sound}

-- a block at the front
pub record FoundBlock (earlier : List DeclTree) (env : Known) (d : ℕ) (whole : List Lexeme) (g : Got StmtTree) : Type 0 where
  pub opening : Lexeme
  pub inside : List Lexeme
  pub closing : Lexeme
  pub ss : StmtTrees
  pub parts : whole ≡ (opening ∷ inside ++ closing ∷ []) ++ g.rest
  pub opens : Is p.OpenBrace opening
  pub so : AreBlockItems earlier env inside ss g.known
  pub closes : Is p.CloseBrace closing
  pub tree : g.tree ≡ grammar.spelled (opening ∷ inside ++ closing ∷ []) (block ss)
  pub low : stmt_path g.tree ≤ d

module _ (earlier : List DeclTree) (env : Known) where
  items_closed : (d : ℕ) (o : Lexeme) (ts vs : List Lexeme) (x : Got StmtTrees) (g : Got StmtTree) → Is p.OpenBrace o → FoundItems earlier env no_stmt ts x → (c : Marked m.CloseBrace x.rest vs)
      → made d (spelled o.span.first c.at.span.past (block x.tree)) x.known c.at.span.past vs ≡ Some g → FoundBlock earlier env d (o ∷ ts) g
  items_closed d o ts vs x g is f c e =
      let front : List Lexeme = o ∷ f.front ++ c.at ∷ [] in
      let q = made_some d (spelled o.span.first c.at.span.past (block x.tree)) x.known c.at.span.past vs g e in
      subst (FoundBlock earlier env d (o ∷ ts)) q.1 (record {
        opening = o;
        inside = f.front;
        closing = c.at;
        ss = x.tree;
        parts = ap (λ (v : List Lexeme). o ∷ v) (two_parts ts f.front x.rest vs [] vs c.at f.parts c.parts refl);
        opens = is;
        so = subst (λ (v : StmtTrees). AreBlockItems earlier env f.front v x.known) f.tree f.so;
        closes = c.is;
        tree = ap (λ (z : Span). stmt z (block x.tree)) (sym (spanned front o.span.first c.at.span.past refl (past-append (o ∷ f.front) (c.at ∷ []) (omega arith))));
        low = q.0;
      })

  items_enclosed : (n d : ℕ) (o : Lexeme) (ts : List Lexeme) (g : Got StmtTree) → Is p.OpenBrace o → (items_at env n (d - 1) no_stmt ts >>= block_ends d o.span.first) ≡ Some g → FoundBlock earlier env d (o ∷ ts) g
  items_enclosed n d o ts g is e =
      let b = bind_some (items_at env n (d - 1) no_stmt ts) (block_ends d o.span.first) g e in
      let c = next_some m.CloseBrace b.0.rest (λ c after. made d (spelled o.span.first c.span.past (block b.0.tree)) b.0.known c.span.past after) g b.2 in
      items_closed d o ts c.0 b.0 g is (items_sound earlier env n (d - 1) no_stmt ts b.0 b.1) c.1 c.2

  opened : (n d : ℕ) (o : Lexeme) (ts : List Lexeme) (g : Got StmtTree) → Is p.OpenBrace o → stmt_at env n d (o ∷ ts) ≡ Some g → FoundBlock earlier env d (o ∷ ts) g
  unfolding stmt_at
  opened zero d o ts g is e = absurd cc
  opened (suc n) d o ts g is e =
      let by : Head → Option (Got StmtTree) = λ head. stmt_by (λ e ts. stmt_at e n (d - 1) ts) (λ e ts. items_at e n (d - 1) no_stmt ts) (λ e ts. groups_at e n (d - 1) Rattle.cx_ctree.specs.Stmts.no_group ts) env n d o (o ∷ ts) ts head in
      items_enclosed n d o ts g is (ap by (sym (ap (λ (v : LexemeKind). head_of v) is)) ∙ not_none earlier (nat_eq d 0) (by (head_of o.kind)) g e)

pub block_sound : (earlier : List DeclTree) (env : Known) (n d : ℕ) (os : List Lexeme) (g : Got StmtTree) → block_at env n d os ≡ Some g → FoundBlock earlier env d os g
block_sound earlier env n d os g e =
    let a = next_some m.OpenBrace os (λ _ _. stmt_at env n d os) g e in
    let found = opened earlier env n d a.1.at a.0 g a.1.is (subst (λ (w : List Lexeme). stmt_at env n d w ≡ Some g) a.1.parts a.2) in
    subst (λ (w : List Lexeme). FoundBlock earlier env d w g) (sym a.1.parts) found
