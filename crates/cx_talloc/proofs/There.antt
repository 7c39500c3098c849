-- What spells an allocator is read.
use Rattle.std.proofs.Common.{◌≡◌, ℕ, Bool, true, false, List, [], ◌∷◌, ◌++◌, Option, Some, None, refl, ap, ◌∙◌, append_assoc}
use Rattle.std.specs.Prelude.{is_some}
use Rattle.cx_cword.specs.declared.lexeme.LexemeKind.{LexemeKind}
use Rattle.cx_cword.specs.declared.lexeme.LexemeKind.TheVariants as cl
use Rattle.cx_cword.specs.declared.word.Punctuator.TheVariants as p
use Rattle.cx_cexpr.specs.Kinds.{word_of, is_skipped}
use Rattle.cx_cname.specs.Known.{Known}
use Rattle.cx_tsyn.specs.Words.{WordTree}
use Rattle.cx_tsyn.specs.Items.{SArgTree, param, over, AllocItemTree}
use Rattle.cx_tword.specs.declared.word.TypeWord.TheVariants as tw
use Rattle.cx_tword.specs.declared.lexeme.TypeLexeme.{TypeLexeme}
use Rattle.cx_tword.specs.declared.lexeme.TypeLexemeKind.{TypeLexemeKind}
use Rattle.cx_tword.specs.declared.lexeme.TypeLexemeKind.TheVariants as l
use Rattle.cx_tword.specs.Marks.{Is, kind_is_mark, kind_is_word, is_mark, is_word}
use Rattle.cx_tword.proofs.Marks.{mark_so, word_so}
use Rattle.cx_reader.specs.Answers.{Got, Answer, ◌>>=◌, give, next_is, next_at}
use Rattle.cx_reader.proofs.ListsThere.{next_there, maybe_there, absent_there, made_there}
use Rattle.cx_tlin.specs.Lins.{IsName, named}
use Rattle.cx_tlin.specs.Reading.{word_at, name_at}
use Rattle.cx_tlin.proofs.There.{name_there, names_there}
use Rattle.cx_tcell.specs.Cells.{InParentheses}
use Rattle.cx_tcell.specs.Reading.{in_parentheses_at}
use Rattle.cx_tcell.proofs.There.{in_parentheses_there}
use Rattle.cx_ttype.specs.Reading.{closed_at}
use Rattle.cx_ttype.proofs.There.{closed_there}
use Rattle.cx_tfunc.specs.Reading.{function_name_at}
use Rattle.cx_tfunc.proofs.There.{function_name_there}
use Rattle.cx_tctype.specs.Pointees.{PointeeTree, is_star, IsCType, EndsCType}
use Rattle.cx_tctype.specs.Reading.{ctype_at}
use Rattle.cx_tctype.proofs.There.{ctype_there}
use Rattle.cx_talloc.specs.Allocs.{divisor_kind, kind_is_equals, is_equals, IsArg, arg_number, arg_param, arg_over, EndsArg, IsFactor, no_factor, a_factor, IsZero, not_zero, is_zero, HeadTree, PlacedTree, BlockTree, SizeTree, IsHead, a_head, IsBlock, a_block, IsSize, a_size, AllocBody, alloc_of, IsAlloc, an_alloc}
use Rattle.cx_talloc.specs.Reading.{divisor_by, divisor_at, arg_by, arg_at, head_from, head_at, placed, placed_at, block_at, factor_at, zero_at, size_at, alloc_size, alloc_block, alloc_type, alloc_from, alloc_at}

-- a comma or a parenthesis that closes ends an argument
comma_slash : (k : TypeLexemeKind) → kind_is_mark p.Comma k ≡ true → kind_is_mark p.Slash k ≡ false
comma_slash (l.Punctuator p.Comma) e = refl
comma_slash _ e = absurd cc

equals_kind : (k : LexemeKind) → kind_is_equals k ≡ true → k ≡ cl.Punctuator p.Assign
equals_kind (cl.Punctuator p.Assign) e = refl
equals_kind _ e = absurd cc

module _ (bytes : List ℕ) where
  -- ---- arguments

  param_there : {a : List TypeLexeme} {x : WordTree} → IsName bytes a x → (rest : List TypeLexeme) → EndsArg rest → arg_at bytes (a ++ rest) ≡ give (param x) rest
  unfolding arg_at
  param_there (named o e) rest ends = ap (arg_by bytes o (o ∷ rest) rest) e ∙ absent_there (is_mark p.Slash) (param (word_at bytes o.span)) rest (λ s rest. divisor_at (word_at bytes o.span) rest) ends

  over_there : {a : List TypeLexeme} {x : WordTree} (s d : TypeLexeme) (k : ℕ) → IsName bytes a x → Is p.Slash s → divisor_kind d.kind ≡ Some k → (rest : List TypeLexeme) → arg_at bytes (a ++ (s ∷ d ∷ rest)) ≡ give (over x k d.span) rest
  unfolding arg_at
  over_there s d k (named o e) f g rest =
      let w = word_at bytes o.span in
      ap (arg_by bytes o (o ∷ s ∷ d ∷ rest) (s ∷ d ∷ rest)) e
      ∙ maybe_there (is_mark p.Slash) (param w) s (d ∷ rest) (λ s rest. divisor_at w rest) (mark_so p.Slash s f)
      ∙ ap (divisor_by w d (d ∷ rest) rest) g

  arg_there : {a : List TypeLexeme} {x : SArgTree} → IsArg bytes a x → (rest : List TypeLexeme) → EndsArg rest → arg_at bytes (a ++ rest) ≡ give x rest
  unfolding arg_at
  arg_there (arg_number o z e) rest ends = ap (arg_by bytes o (o ∷ rest) rest) e
  arg_there (arg_param s) rest ends = param_there s rest ends
  arg_there (arg_over {a = a} s o d t f g) rest ends = ap (arg_at bytes) (append_assoc a (s ∷ o ∷ []) rest) ∙ over_there s o d t f g rest

  args_there : {a : List TypeLexeme} {xs : List SArgTree} → InParentheses (IsArg bytes) a xs → (rest : List TypeLexeme) → next_is (is_mark p.OpenParen) rest ≡ false → in_parentheses_at (arg_at bytes) (a ++ rest) ≡ give xs rest
  args_there s rest off = in_parentheses_there (IsArg bytes) (arg_at bytes) EndsArg (λ m a rest x s less ends. arg_there s rest ends) (λ o w so. comma_slash o.kind so) (λ o w e. ap (kind_is_mark p.Slash) e) s rest off

  -- ---- the pieces

  four : (v a rest : List TypeLexeme) (e r : TypeLexeme) → (v ++ (e ∷ a ++ r ∷ [])) ++ rest ≡ v ++ (e ∷ (a ++ (r ∷ rest)))
  four v a rest e r = append_assoc v (e ∷ a ++ r ∷ []) rest ∙ ap (λ (w : List TypeLexeme). v ++ (e ∷ w)) (append_assoc a (r ∷ []) rest)

  head_there : {a : List TypeLexeme} {x : HeadTree} → IsHead bytes a x → (rest : List TypeLexeme) → head_at bytes (a ++ rest) ≡ give x rest
  unfolding head_at
  head_there (a_head {v = v} {a = a} {name = i} {params = xs} e r f g s h) rest =
      let go1 : Got TypeLexeme (List WordTree) → Answer TypeLexeme HeadTree = λ xs. closed_at p.CloseParen (record { name = i; params = xs.tree }) xs.rest in
      let go0 : Got TypeLexeme WordTree → Answer TypeLexeme HeadTree = λ v. next_at (is_mark p.OpenParen) v.rest (λ e rest. head_from bytes v.tree rest) in
      ap (λ (w : List TypeLexeme). function_name_at bytes w >>= go0) (four v a rest e r)
      ∙ ap (λ (q : Answer TypeLexeme WordTree). q >>= go0) (function_name_there bytes f (e ∷ (a ++ (r ∷ rest))))
      ∙ next_there (is_mark p.OpenParen) e (a ++ (r ∷ rest)) (λ e rest. head_from bytes i rest) (mark_so p.OpenParen e g)
      ∙ ap (λ (q : Answer TypeLexeme (List WordTree)). q >>= go1) (names_there bytes s (r ∷ rest) (ap (kind_is_mark p.Comma) h))
      ∙ closed_there bytes p.CloseParen (record { name = i; params = xs }) r rest h

  block_there : {a : List TypeLexeme} {x : BlockTree} → IsBlock bytes a x → (rest : List TypeLexeme) → next_is (is_mark p.OpenParen) rest ≡ false → block_at bytes (a ++ rest) ≡ give x rest
  unfolding block_at
  block_there (a_block {c = c} {d = d} {region = i} {args = xs} s t) rest off =
      let go1 : Got TypeLexeme (List SArgTree) → Answer TypeLexeme BlockTree = λ xs. give (record { region = i; args = xs.tree }) xs.rest in
      let go0 : Got TypeLexeme WordTree → Answer TypeLexeme BlockTree = λ c. in_parentheses_at (arg_at bytes) c.rest >>= λ xs. give (record { region = c.tree; args = xs.tree }) xs.rest in
      ap (λ (w : List TypeLexeme). name_at bytes w >>= go0) (append_assoc c d rest)
      ∙ ap (λ (q : Answer TypeLexeme WordTree). q >>= go0) (name_there bytes s (d ++ rest))
      ∙ ap (λ (q : Answer TypeLexeme (List SArgTree)). q >>= go1) (args_there t rest off)

  factor_there : {a : List TypeLexeme} {x : Option WordTree} → IsFactor bytes a x → (rest : List TypeLexeme) → next_is (is_mark p.Star) rest ≡ false → factor_at bytes (a ++ rest) ≡ give x rest
  unfolding factor_at
  factor_there no_factor rest off = absent_there (is_mark p.Star) None rest (λ o rest. name_at bytes rest >>= λ x. give (Some x.tree) x.rest) off
  factor_there (a_factor {a = a} o e s) rest off =
      maybe_there (is_mark p.Star) None o (a ++ rest) (λ o rest. name_at bytes rest >>= λ x. give (Some x.tree) x.rest) (mark_so p.Star o e)
      ∙ ap (λ (q : Answer TypeLexeme WordTree). q >>= λ x. give (Some x.tree) x.rest) (name_there bytes s rest)

  zero_there : {a : List TypeLexeme} {x : Bool} → IsZero a x → (rest : List TypeLexeme) → next_is (is_word tw.Zero) rest ≡ false → zero_at (a ++ rest) ≡ give x rest
  unfolding zero_at
  zero_there not_zero rest off = absent_there (is_word tw.Zero) false rest (λ o rest. give true rest) off
  zero_there (is_zero o e) rest off = maybe_there (is_word tw.Zero) false o rest (λ o rest. give true rest) (word_so tw.Zero o e)

  -- no star follows a first factor
  zero_star : {a : List TypeLexeme} {x : Bool} → IsZero a x → (s : TypeLexeme) (rest : List TypeLexeme) → Is p.Semicolon s → next_is (is_mark p.Star) (a ++ (s ∷ rest)) ≡ false
  zero_star not_zero s rest e = ap (kind_is_mark p.Star) e
  zero_star (is_zero o f) s rest e = ap (kind_is_mark p.Star) f

  three : (a b c rest : List TypeLexeme) → (a ++ (b ++ c)) ++ rest ≡ a ++ (b ++ (c ++ rest))
  three a b c rest = append_assoc a (b ++ c) rest ∙ ap (λ (w : List TypeLexeme). a ++ w) (append_assoc b c rest)

  size_there : {a : List TypeLexeme} {x : SizeTree} → IsSize bytes a x → (s : TypeLexeme) (rest : List TypeLexeme) → Is p.Semicolon s → size_at bytes (a ++ (s ∷ rest)) ≡ give x (s ∷ rest)
  unfolding size_at
  size_there (a_size {f = f} {g = g} {h = h} {size = i} {times = j} {zero = z} t u v) s rest e =
      let go2 : Got TypeLexeme Bool → Answer TypeLexeme SizeTree = λ h. give (record { bytes = i; times = j; zero = h.tree }) h.rest in
      let go1 : Got TypeLexeme (Option WordTree) → Answer TypeLexeme SizeTree = λ g. zero_at g.rest >>= λ h. give (record { bytes = i; times = g.tree; zero = h.tree }) h.rest in
      let go0 : Got TypeLexeme WordTree → Answer TypeLexeme SizeTree = λ f. factor_at bytes f.rest >>= λ g. zero_at g.rest >>= λ h. give (record { bytes = f.tree; times = g.tree; zero = h.tree }) h.rest in
      ap (λ (w : List TypeLexeme). name_at bytes w >>= go0) (three f g h (s ∷ rest))
      ∙ ap (λ (q : Answer TypeLexeme WordTree). q >>= go0) (name_there bytes t (g ++ (h ++ (s ∷ rest))))
      ∙ ap (λ (q : Answer TypeLexeme (Option WordTree)). q >>= go1) (factor_there u (h ++ (s ∷ rest)) (zero_star v s rest e))
      ∙ ap (λ (q : Answer TypeLexeme Bool). q >>= go2) (zero_there v (s ∷ rest) (ap (kind_is_word tw.Zero) e))

  module _ (env : Known) where
    placed_there : {a : List TypeLexeme} {x : PointeeTree} → IsCType env a x → (rest : List TypeLexeme) → EndsCType rest → placed_at env (a ++ rest) ≡ give (placed a x) rest
    placed_there {a} {x} s rest ends = made_there placed a rest x (ctype_at env (a ++ rest)) (ctype_there env s rest ends)

    -- ---- allocators

    all : (a b c d rest : List TypeLexeme) (q i k s : TypeLexeme) → (a ++ (q ∷ b ++ (i ∷ c ++ (k ∷ d ++ s ∷ [])))) ++ rest ≡ a ++ (q ∷ (b ++ (i ∷ (c ++ (k ∷ (d ++ (s ∷ rest)))))))
    all a b c d rest q i k s =
        append_assoc a (q ∷ b ++ (i ∷ c ++ (k ∷ d ++ s ∷ []))) rest
        ∙ ap (λ (w : List TypeLexeme). a ++ (q ∷ w)) (append_assoc b (i ∷ c ++ (k ∷ d ++ s ∷ [])) rest
        ∙ ap (λ (w : List TypeLexeme). b ++ (i ∷ w)) (append_assoc c (k ∷ d ++ s ∷ []) rest ∙ ap (λ (w : List TypeLexeme). c ++ (k ∷ w)) (append_assoc d (s ∷ []) rest)))

    assign_ends : (i : TypeLexeme) (w : List TypeLexeme) → is_equals i ≡ true → EndsCType (i ∷ w)
    assign_ends i w so = let e = equals_kind i.c_kind so in (ap (λ (k : LexemeKind). is_some (word_of k)) e, (ap is_star e, ap is_skipped e))

    pub alloc_there : {a : List TypeLexeme} {x : AllocItemTree} → IsAlloc bytes env a x → (rest : List TypeLexeme) → alloc_at bytes env (a ++ rest) ≡ give x rest
    unfolding alloc_at
    alloc_there (an_alloc {a = a} {b = b} {c = c} {d = d} {x = x} {t = t} {y = y} {z = z} o q i k s e f g h j u v r r2) rest =
        let os = o ∷ a ++ (q ∷ b ++ (i ∷ c ++ (k ∷ d ++ s ∷ []))) in
        let pt : PlacedTree = placed b t in
        let all4 : AllocBody = (x, pt, y, z) in
        let go3 : Got TypeLexeme SizeTree → Answer TypeLexeme AllocBody = λ z. closed_at p.Semicolon (x, pt, y, z.tree) z.rest in
        let go2 : Got TypeLexeme BlockTree → Answer TypeLexeme AllocBody = λ y. next_at (is_word tw.Bytes) y.rest (λ k rest. alloc_size bytes x pt y.tree rest) in
        let go1 : Got TypeLexeme PlacedTree → Answer TypeLexeme AllocBody = λ t. next_at is_equals t.rest (λ i rest. alloc_block bytes x t.tree rest) in
        let go0 : Got TypeLexeme HeadTree → Answer TypeLexeme AllocBody = λ x. next_at (is_word tw.For) x.rest (λ q rest. alloc_type bytes env x.tree rest) in
        let tail2 = k ∷ (d ++ (s ∷ rest)) in
        let tail1 = i ∷ (c ++ tail2) in
        let parts : next_at (is_word tw.Alloc) (os ++ rest) (λ o rest. alloc_from bytes env rest) ≡ give all4 rest =
        next_there (is_word tw.Alloc) o ((a ++ (q ∷ b ++ (i ∷ c ++ (k ∷ d ++ s ∷ [])))) ++ rest) (λ o rest. alloc_from bytes env rest) (word_so tw.Alloc o e)
        ∙ ap (λ (w : List TypeLexeme). head_at bytes w >>= go0) (all a b c d rest q i k s)
        ∙ ap (λ (r : Answer TypeLexeme HeadTree). r >>= go0) (head_there f (q ∷ (b ++ tail1)))
        ∙ next_there (is_word tw.For) q (b ++ tail1) (λ q rest. alloc_type bytes env x rest) (word_so tw.For q g)
        ∙ ap (λ (r : Answer TypeLexeme PlacedTree). r >>= go1) (placed_there h tail1 (assign_ends i (c ++ tail2) j))
        ∙ next_there is_equals i (c ++ tail2) (λ i rest. alloc_block bytes x pt rest) j
        ∙ ap (λ (r : Answer TypeLexeme BlockTree). r >>= go2) (block_there u tail2 (ap (kind_is_mark p.OpenParen) v))
        ∙ next_there (is_word tw.Bytes) k (d ++ (s ∷ rest)) (λ k rest. alloc_size bytes x pt y rest) (word_so tw.Bytes k v)
        ∙ ap (λ (r : Answer TypeLexeme SizeTree). r >>= go3) (size_there r s rest r2)
        ∙ closed_there bytes p.Semicolon all4 s rest r2 in
        made_there alloc_of os rest all4 (next_at (is_word tw.Alloc) (os ++ rest) (λ o rest. alloc_from bytes env rest)) parts
