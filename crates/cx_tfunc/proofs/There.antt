-- What spells the type of a function is read.
use Rattle.std.proofs.Common.{◌≡◌, ℕ, Bool, true, false, cond, List, [], ◌∷◌, ◌++◌, Option, Some, None, refl, ap, ◌∙◌, append_assoc}
use Rattle.cx_base.specs.declared.span.Span.{Span}
use Rattle.cx_cword.specs.declared.word.Punctuator.TheVariants as p
use Rattle.cx_tsyn.specs.Words.{WordTree}
use Rattle.cx_tsyn.specs.Lins.{RelationTree}
use Rattle.cx_tsyn.specs.Cells.{SCellTree}
use Rattle.cx_tsyn.specs.Items.{SResultTree, FuncItemTree}
use Rattle.cx_tword.specs.declared.word.TypeWord.TheVariants as tw
use Rattle.cx_tword.specs.declared.lexeme.TypeLexeme.{TypeLexeme}
use Rattle.cx_tword.specs.declared.lexeme.TypeLexemeKind.{TypeLexemeKind}
use Rattle.cx_tword.specs.declared.lexeme.TypeLexemeKind.TheVariants as l
use Rattle.cx_tword.specs.Marks.{Is, IsWord, kind_is_mark, kind_is_word, is_mark, is_word}
use Rattle.cx_tword.proofs.Marks.{mark_so, word_so}
use Rattle.cx_reader.specs.Answers.{Got, Answer, ◌>>=◌, give, next_is, next_at}
use Rattle.cx_reader.specs.Lists.{Listed, listed}
use Rattle.cx_reader.proofs.ListsThere.{next_there, maybe_there, absent_there, made_there, listed_there}
use Rattle.cx_tlin.specs.Lexemes.{span_of}
use Rattle.cx_tlin.specs.Lins.{EndsLins}
use Rattle.cx_tlin.specs.Reading.{word_at, names_at}
use Rattle.cx_tlin.proofs.There.{lin_ends, names_there}
use Rattle.cx_tcell.specs.Cells.{IsCell, goes_cell, EndsCell}
use Rattle.cx_tcell.specs.Reading.{cell_at}
use Rattle.cx_tcell.proofs.There.{cell_there}
use Rattle.cx_ttype.specs.Types.{AreBinders, no_binders, some_binders, AreConds, no_conds, some_conds}
use Rattle.cx_ttype.specs.Reading.{binders_at, conds_at, closed_at}
use Rattle.cx_ttype.proofs.There.{Stops, begins_cell, First, first_and, first_next, cell_first, binders_there, conds_there, closed_there}
use Rattle.cx_tfunc.specs.Funcs.{names_function, IsFunctionName, function_named, AreFunctionBinders, no_function_binders, function_binders, AreArgs, no_args, some_args, IsResult, result_void, a_result, FuncBody, func_of, IsFunc, a_func}
use Rattle.cx_tfunc.specs.Reading.{function_name_at, function_binders_at, cells_at, some_args_at, args_from, args_at, result_from, result_at, placed, placed_at, func_end, func_conds, func_from, func_at}

-- a cell begins with no word some, no word void and no parenthesis that closes
cell_no_some : (k : TypeLexemeKind) → begins_cell k ≡ true → kind_is_word tw.Some k ≡ false
cell_no_some (l.Word tw.Any) e = refl
cell_no_some (l.Word tw.Val) e = refl
cell_no_some (l.Word tw.Ptr) e = refl
cell_no_some (l.AnyBytes k) e = refl
cell_no_some (l.Unsigned k) e = refl
cell_no_some (l.Signed k) e = refl
cell_no_some _ e = absurd cc

cell_no_void : (k : TypeLexemeKind) → begins_cell k ≡ true → kind_is_word tw.Void k ≡ false
cell_no_void (l.Word tw.Any) e = refl
cell_no_void (l.Word tw.Val) e = refl
cell_no_void (l.Word tw.Ptr) e = refl
cell_no_void (l.AnyBytes k) e = refl
cell_no_void (l.Unsigned k) e = refl
cell_no_void (l.Signed k) e = refl
cell_no_void _ e = absurd cc

cell_no_paren : (k : TypeLexemeKind) → begins_cell k ≡ true → kind_is_mark p.CloseParen k ≡ false
cell_no_paren (l.Word tw.Any) e = refl
cell_no_paren (l.Word tw.Val) e = refl
cell_no_paren (l.Word tw.Ptr) e = refl
cell_no_paren (l.AnyBytes k) e = refl
cell_no_paren (l.Unsigned k) e = refl
cell_no_paren (l.Signed k) e = refl
cell_no_paren _ e = absurd cc

-- what a mark or a word of this kind is followed by ends a cell, or linear forms
cell_mark : (o : TypeLexeme) (w : List TypeLexeme) (kind : TypeLexemeKind) → o.kind ≡ kind → goes_cell kind ≡ false → EndsCell (o ∷ w)
cell_mark o w kind e f = ap goes_cell e ∙ f

module _ (bytes : List ℕ) where
  -- ---- before the arrow

  pub function_name_there : {a : List TypeLexeme} {x : WordTree} → IsFunctionName bytes a x → (rest : List TypeLexeme) → function_name_at bytes (a ++ rest) ≡ give x rest
  unfolding function_name_at
  function_name_there (function_named o e) rest = next_there names_function o rest (λ o rest. give (word_at bytes o.span) rest) e

  function_binders_there : {a : List TypeLexeme} {xs : List WordTree} → AreFunctionBinders bytes a xs → (o : TypeLexeme) (rest : List TypeLexeme) → Is p.OpenParen o → function_binders_at bytes (a ++ o ∷ rest) ≡ give xs (o ∷ rest)
  unfolding function_binders_at
  function_binders_there no_function_binders o rest e = absent_there (is_word tw.Some) [] (o ∷ rest) (λ o rest. names_at bytes rest) (ap (kind_is_word tw.Some) e)
  function_binders_there (function_binders {a = a} s f h) o rest e =
      maybe_there (is_word tw.Some) [] s (a ++ o ∷ rest) (λ o rest. names_at bytes rest) (word_so tw.Some s f) ∙ names_there bytes h (o ∷ rest) (ap (kind_is_mark p.Comma) e)

  cells_there : {a : List TypeLexeme} {xs : List SCellTree} → Listed (Is p.Comma) (IsCell bytes) a xs → (c : TypeLexeme) (rest : List TypeLexeme) → Is p.CloseParen c → cells_at bytes (a ++ c ∷ rest) ≡ give xs (c ∷ rest)
  cells_there s c rest e =
      listed_there (IsCell bytes) (cell_at bytes) EndsCell (λ m a rest x s less ends. cell_there bytes s rest ends) (Is p.Comma) (is_mark p.Comma) (mark_so p.Comma) (λ o w so. cell_comma o w so) s (c ∷ rest)
      (cell_mark c rest (l.Punctuator p.CloseParen) e refl) (ap (kind_is_mark p.Comma) e)
    where
      cell_comma : (o : TypeLexeme) (w : List TypeLexeme) → is_mark p.Comma o ≡ true → EndsCell (o ∷ w)
      cell_comma o w so = comma_kind o.kind so
        where
          comma_kind : (k : TypeLexemeKind) → kind_is_mark p.Comma k ≡ true → goes_cell k ≡ false
          comma_kind (l.Punctuator p.Comma) e = refl
          comma_kind _ e = absurd cc

  cells_first : {a : List TypeLexeme} {xs : List SCellTree} → Listed (Is p.Comma) (IsCell bytes) a xs → First begins_cell a
  cells_first (listed {c = c} s ss) = first_and c (cell_first bytes s)

  args_open : (w rest : List TypeLexeme) → next_is (is_mark p.CloseParen) w ≡ false → args_from bytes w ≡ some_args_at bytes w
  args_open [] rest off = refl
  args_open (c ∷ w) rest off = ap (λ (b : Bool). cond b (give [] w) (some_args_at bytes (c ∷ w))) off

  args_there : {a : List TypeLexeme} {xs : List SCellTree} → AreArgs bytes a xs → (rest : List TypeLexeme) → args_at bytes (a ++ rest) ≡ give xs rest
  unfolding args_at
  args_there (no_args o c e f) rest =
      next_there (is_mark p.OpenParen) o (c ∷ rest) (λ o rest. args_from bytes rest) (mark_so p.OpenParen o e) ∙ ap (λ (b : Bool). cond b (give [] rest) (some_args_at bytes (c ∷ rest))) (mark_so p.CloseParen c f)
  args_there (some_args {a = a} {xs = xs} o c e s f) rest =
      let go : Got TypeLexeme (List SCellTree) → Answer TypeLexeme (List SCellTree) = λ xs. closed_at p.CloseParen xs.tree xs.rest in
      next_there (is_mark p.OpenParen) o ((a ++ c ∷ []) ++ rest) (λ o rest. args_from bytes rest) (mark_so p.OpenParen o e)
      ∙ ap (args_from bytes) (append_assoc a (c ∷ []) rest)
      ∙ args_open (a ++ c ∷ rest) rest (first_next begins_cell (kind_is_mark p.CloseParen) a (c ∷ rest) cell_no_paren (cells_first s))
      ∙ ap (λ (r : Answer TypeLexeme (List SCellTree)). r >>= go) (cells_there s c rest f)
      ∙ closed_there bytes p.CloseParen xs c rest f

  -- ---- behind the arrow

  -- what ends a result
  record EndsResult (rest : List TypeLexeme) : Type 0 where
    cell : EndsCell rest
    lins : EndsLins rest
    off : next_is (is_word tw.Where) rest ≡ false

  semicolon_ends : (s : TypeLexeme) (rest : List TypeLexeme) → Is p.Semicolon s → EndsResult (s ∷ rest)
  semicolon_ends s rest e = record {
    cell = cell_mark s rest (l.Punctuator p.Semicolon) e refl;
    lins = (lin_ends p.Semicolon s rest e (refl, refl, refl), ap (kind_is_mark p.Comma) e);
    off = ap (kind_is_word tw.Where) e;
  }

  conds_end : {c : List TypeLexeme} {cs : List RelationTree} → AreConds bytes c cs → (rest : List TypeLexeme) → EndsResult rest → EndsCell (c ++ rest)
  conds_end no_conds rest e = e.cell
  conds_end (some_conds {a = a} o f s) rest e = cell_mark o (a ++ rest) (l.Word tw.Where) f refl

  -- binders and a cell begin with no word void
  no_void : {a b : List TypeLexeme} {bs : List WordTree} {x : SCellTree} → AreBinders bytes a bs → IsCell bytes b x → (rest : List TypeLexeme) → next_is (is_word tw.Void) (a ++ (b ++ rest)) ≡ false
  no_void {b = b} no_binders s rest = first_next begins_cell (kind_is_word tw.Void) b rest cell_no_void (cell_first bytes s)
  no_void (some_binders o c e h f) s rest = ap (kind_is_word tw.Void) e

  three : (a b c rest : List TypeLexeme) → (a ++ (b ++ c)) ++ rest ≡ a ++ (b ++ (c ++ rest))
  three a b c rest = append_assoc a (b ++ c) rest ∙ ap (λ (w : List TypeLexeme). a ++ w) (append_assoc b c rest)

  result_from_there : {a b c : List TypeLexeme} {bs : List WordTree} {x : SCellTree} {cs : List RelationTree} → AreBinders bytes a bs → IsCell bytes b x → AreConds bytes c cs → (rest : List TypeLexeme) → EndsResult rest
      → result_from bytes (a ++ (b ++ (c ++ rest))) ≡ give (Some (record { binders = bs; cell = x; conds = cs })) rest
  result_from_there {a} {b} {c} {bs} {x} {cs} s t u rest ends =
      let go2 : Got TypeLexeme (List RelationTree) → Answer TypeLexeme (Option SResultTree) = λ cs. give (Some (record { binders = bs; cell = x; conds = cs.tree })) cs.rest in
      let go1 : Got TypeLexeme SCellTree → Answer TypeLexeme (Option SResultTree) = λ x. conds_at bytes x.rest >>= λ cs. give (Some (record { binders = bs; cell = x.tree; conds = cs.tree })) cs.rest in
      let go0 : Got TypeLexeme (List WordTree) → Answer TypeLexeme (Option SResultTree) = λ bs. cell_at bytes bs.rest >>= λ x. conds_at bytes x.rest >>= λ cs. give (Some (record { binders = bs.tree; cell = x.tree; conds = cs.tree })) cs.rest in
      ap (λ (r : Answer TypeLexeme (List WordTree)). r >>= go0) (binders_there bytes s (b ++ (c ++ rest)) (first_next begins_cell (kind_is_word tw.Some) b (c ++ rest) cell_no_some (cell_first bytes t)))
      ∙ ap (λ (r : Answer TypeLexeme SCellTree). r >>= go1) (cell_there bytes t (c ++ rest) (conds_end u rest ends))
      ∙ ap (λ (r : Answer TypeLexeme (List RelationTree)). r >>= go2) (conds_there bytes u rest ends.off ends.lins)

  result_off : (w : List TypeLexeme) → next_is (is_word tw.Void) w ≡ false → result_at bytes w ≡ result_from bytes w
  unfolding result_at
  result_off [] off = refl
  result_off (o ∷ w) off = ap (λ (b : Bool). cond b (give None w) (result_from bytes (o ∷ w))) off

  result_there : {a : List TypeLexeme} {x : Option SResultTree} → IsResult bytes a x → (rest : List TypeLexeme) → EndsResult rest → result_at bytes (a ++ rest) ≡ give x rest
  unfolding result_at
  result_there (result_void o e) rest ends = ap (λ (b : Bool). cond b (give None rest) (result_from bytes (o ∷ rest))) (word_so tw.Void o e)
  result_there (a_result {a = a} {b = b} {c = c} s t u) rest ends =
      ap (result_at bytes) (three a b c rest) ∙ result_off (a ++ (b ++ (c ++ rest))) (no_void s t (c ++ rest)) ∙ result_from_there s t u rest ends

  placed_there : {a : List TypeLexeme} {x : Option SResultTree} → IsResult bytes a x → (rest : List TypeLexeme) → EndsResult rest → placed_at bytes (a ++ rest) ≡ give (placed a x) rest
  placed_there {a} {x} s rest ends = made_there placed a rest x (result_at bytes (a ++ rest)) (result_there s rest ends)

  -- ---- functions

  all : (v a b c d rest : List TypeLexeme) (r s : TypeLexeme) → (v ++ (a ++ (b ++ (c ++ (r ∷ d ++ s ∷ []))))) ++ rest ≡ v ++ (a ++ (b ++ (c ++ (r ∷ (d ++ (s ∷ rest))))))
  all v a b c d rest r s =
      append_assoc v (a ++ (b ++ (c ++ (r ∷ d ++ s ∷ [])))) rest
      ∙ ap (λ (w : List TypeLexeme). v ++ w) (append_assoc a (b ++ (c ++ (r ∷ d ++ s ∷ []))) rest
      ∙ ap (λ (w : List TypeLexeme). a ++ w) (append_assoc b (c ++ (r ∷ d ++ s ∷ [])) rest
      ∙ ap (λ (w : List TypeLexeme). b ++ w) (append_assoc c (r ∷ d ++ s ∷ []) rest ∙ ap (λ (w : List TypeLexeme). c ++ (r ∷ w)) (append_assoc d (s ∷ []) rest))))

  arrow_ends : (r : TypeLexeme) (w : List TypeLexeme) → Is p.Arrow r → EndsLins (r ∷ w)
  arrow_ends r w e = (lin_ends p.Arrow r w e (refl, refl, refl), ap (kind_is_mark p.Comma) e)

  -- an arrow or conditions, or a parenthesis that opens: no name follows
  args_begin : {b : List TypeLexeme} {xs : List SCellTree} → AreArgs bytes b xs → (bs : List WordTree) {a : List TypeLexeme} → AreFunctionBinders bytes a bs → (w : List TypeLexeme) → function_binders_at bytes (a ++ (b ++ w)) ≡ give bs (b ++ w)
  args_begin (no_args o c e f) bs g w = function_binders_there g o (c ∷ w) e
  args_begin (some_args {a = a} o c e s f) bs g w = function_binders_there g o ((a ++ c ∷ []) ++ w) e

  pub func_there : {a : List TypeLexeme} {x : FuncItemTree} → IsFunc bytes a x → (rest : List TypeLexeme) → func_at bytes (a ++ rest) ≡ give x rest
  unfolding func_at
  func_there (a_func {v = v} {a = a} {b = b} {c = c} {d = d} {name = i} {bs = bs} {xs = xs} {cs = cs} {result = y} o r s e f g h t j k z) rest =
      let os = o ∷ v ++ (a ++ (b ++ (c ++ (r ∷ d ++ s ∷ [])))) in
      let x : FuncBody = (i, bs, xs, cs, y, span_of d) in
      let go4 : Got TypeLexeme (Option SResultTree × Span) → Answer TypeLexeme FuncBody = λ y. closed_at p.Semicolon (i, bs, xs, cs, y.tree.0, y.tree.1) y.rest in
      let go3 : Got TypeLexeme (List RelationTree) → Answer TypeLexeme FuncBody = λ cs. next_at (is_mark p.Arrow) cs.rest (λ r rest. func_end bytes i bs xs cs.tree rest) in
      let go2 : Got TypeLexeme (List SCellTree) → Answer TypeLexeme FuncBody = λ xs. func_conds bytes i bs xs.tree xs.rest in
      let go1 : Got TypeLexeme (List WordTree) → Answer TypeLexeme FuncBody = λ bs. args_at bytes bs.rest >>= λ xs. func_conds bytes i bs.tree xs.tree xs.rest in
      let go0 : Got TypeLexeme WordTree → Answer TypeLexeme FuncBody = λ v. function_binders_at bytes v.rest >>= λ bs. args_at bytes bs.rest >>= λ xs. func_conds bytes v.tree bs.tree xs.tree xs.rest in
      let tail = r ∷ (d ++ (s ∷ rest)) in
      let parts : next_at (is_word tw.Fn) (os ++ rest) (λ o rest. func_from bytes rest) ≡ give x rest =
      next_there (is_word tw.Fn) o ((v ++ (a ++ (b ++ (c ++ (r ∷ d ++ s ∷ []))))) ++ rest) (λ o rest. func_from bytes rest) (word_so tw.Fn o e)
      ∙ ap (λ (w : List TypeLexeme). function_name_at bytes w >>= go0) (all v a b c d rest r s)
      ∙ ap (λ (q : Answer TypeLexeme WordTree). q >>= go0) (function_name_there f (a ++ (b ++ (c ++ tail))))
      ∙ ap (λ (q : Answer TypeLexeme (List WordTree)). q >>= go1) (args_begin h bs g (c ++ tail))
      ∙ ap (λ (q : Answer TypeLexeme (List SCellTree)). q >>= go2) (args_there h (c ++ tail))
      ∙ ap (λ (q : Answer TypeLexeme (List RelationTree)). q >>= go3) (conds_there bytes t tail (ap (kind_is_word tw.Where) j) (arrow_ends r (d ++ (s ∷ rest)) j))
      ∙ next_there (is_mark p.Arrow) r (d ++ (s ∷ rest)) (λ r rest. func_end bytes i bs xs cs rest) (mark_so p.Arrow r j)
      ∙ ap (λ (q : Answer TypeLexeme (Option SResultTree × Span)). q >>= go4) (placed_there k (s ∷ rest) (semicolon_ends s rest z))
      ∙ closed_there bytes p.Semicolon x s rest z in
      made_there func_of os rest x (next_at (is_word tw.Fn) (os ++ rest) (λ o rest. func_from bytes rest)) parts
