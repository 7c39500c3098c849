-- What is told of the reader of the types of functions.
use Rattle.std.proofs.Common.{◌≡◌, ℕ, ◌<◌, Bool, true, false, cond, List, [], ◌∷◌, ◌++◌, length, Option, Some, None, refl, ap, arith}
use Rattle.cx_base.specs.declared.span.Span.{Span}
use Rattle.cx_cword.specs.declared.word.Punctuator.TheVariants as p
use Rattle.cx_tsyn.specs.Words.{WordTree}
use Rattle.cx_tsyn.specs.Lins.{RelationTree}
use Rattle.cx_tsyn.specs.Cells.{SCellTree}
use Rattle.cx_tsyn.specs.Items.{SResultTree}
use Rattle.cx_tword.specs.declared.word.TypeWord.TheVariants as tw
use Rattle.cx_tword.specs.declared.lexeme.TypeLexeme.{TypeLexeme}
use Rattle.cx_tword.specs.Marks.{Is, IsWord, is_mark, is_word}
use Rattle.cx_tword.proofs.Marks.{mark_is, word_is, a_mark, a_word, a_name}
use Rattle.cx_reader.specs.Answers.{◌>>=◌, give, next_at}
use Rattle.cx_reader.specs.Lists.{Listed}
use Rattle.cx_reader.proofs.Laws.{Viable, Good}
use Rattle.cx_reader.proofs.Tells.{viable, gives, maps, takes, stays, none_left, thens, sends, wants, may, makes}
use Rattle.cx_reader.proofs.ListsTold.{listed_good}
use Rattle.cx_tlin.specs.Lexemes.{span_of}
use Rattle.cx_tlin.specs.Lins.{AreNames}
use Rattle.cx_tlin.specs.Reading.{word_at, names_at}
use Rattle.cx_tlin.proofs.Told.{names_good}
use Rattle.cx_tcell.specs.Cells.{IsCell}
use Rattle.cx_tcell.specs.Reading.{cell_at}
use Rattle.cx_tcell.proofs.Told.{small_cell, cell_good}
use Rattle.cx_ttype.specs.Types.{AreBinders, AreConds, no_conds}
use Rattle.cx_ttype.specs.Reading.{binders_at, conds_at, closed_at}
use Rattle.cx_ttype.proofs.Told.{binders_good, conds_good, closed_good}
use Rattle.cx_tfunc.specs.Funcs.{names_function, IsFunctionName, function_named, AreFunctionBinders, no_function_binders, function_binders, AreArgs, no_args, some_args, IsResult, result_void, a_result, FuncBody, func_of, IsFunc, a_func}
use Rattle.cx_tfunc.specs.Reading.{function_name_at, function_binders_at, cells_at, some_args_at, args_from, args_at, result_from, result_at, placed, placed_at, func_end, func_conds, func_from, func_at}

-- a result with its place
pub data IsPlaced (bytes : List ℕ) : List TypeLexeme → Option SResultTree × Span → Type 0 where
  is_placed : {a : List TypeLexeme} {x : Option SResultTree} → IsResult bytes a x → IsPlaced bytes a (x, span_of a)

module _ (bytes : List ℕ) where
  abbrev paren : TypeLexeme
  paren = a_mark p.CloseParen

  abbrev semicolon : TypeLexeme
  semicolon = a_mark p.Semicolon

  -- ---- before the arrow

  abbrev pub small_function_name : Viable (IsFunctionName bytes)
  small_function_name = record { more = a_name ∷ []; tree = word_at bytes a_name.span; spelled_so = function_named a_name refl }

  pub function_name_good : (n : ℕ) (os : List TypeLexeme) → length os < n → Good (IsFunctionName bytes) (λ m w. function_name_at bytes w) n os
  unfolding function_name_at
  function_name_good n os less =
      wants (IsFunctionName bytes) names_function a_name (λ m o w. give (word_at bytes o.span) w) n os less (viable _ [] (function_named a_name refl))
      (λ o rest so less. gives (λ b x. IsFunctionName bytes (o ∷ b) x) (word_at bytes o.span) n rest (function_named o so))

  function_binders_good : (n : ℕ) (os : List TypeLexeme) → length os < n → Good (AreFunctionBinders bytes) (λ m w. function_binders_at bytes w) n os
  unfolding function_binders_at
  function_binders_good n os less =
      may (AreFunctionBinders bytes) (is_word tw.Some) [] no_function_binders (λ m o w. names_at bytes w) n os less
      (λ o rest so less. maps (AreNames bytes) (λ b x. AreFunctionBinders bytes (o ∷ b) x) (λ m w. names_at bytes w) n rest (λ b x s. function_binders o (word_is tw.Some o so) s) (names_good bytes n rest less))

  cells_good : (n : ℕ) (os : List TypeLexeme) → length os < n → Good (Listed (Is p.Comma) (IsCell bytes)) (λ m w. cells_at bytes w) n os
  cells_good n os less = listed_good (IsCell bytes) (cell_at bytes) (small_cell bytes) (cell_good bytes) (Is p.Comma) (is_mark p.Comma) (mark_is p.Comma) n os less

  some_args_good : (o : TypeLexeme) → Is p.OpenParen o → (n : ℕ) (os : List TypeLexeme) → length os < n → Good (λ b x. AreArgs bytes (o ∷ b) x) (λ m w. some_args_at bytes w) n os
  some_args_good o e n os less =
      thens (Listed (Is p.Comma) (IsCell bytes)) (λ b x. AreArgs bytes (o ∷ b) x) (λ m w. cells_at bytes w) (λ m xs. closed_at p.CloseParen xs.tree xs.rest) n os less (cells_good n os less)
      (λ a xs s. viable xs (paren ∷ []) (some_args o paren e s refl))
      (λ a rest xs s less. closed_good bytes (λ b x. AreArgs bytes (o ∷ a ++ b) x) p.CloseParen xs n rest less (λ c f. some_args o c e s f))

  args_step : (o : TypeLexeme) → Is p.OpenParen o → (n : ℕ) (c : TypeLexeme) (rest : List TypeLexeme) (closes : Bool) → is_mark p.CloseParen c ≡ closes → length (c ∷ rest) < n → Good (λ b x. AreArgs bytes (o ∷ b) x) (λ m w. args_from bytes w) n (c ∷ rest)
  args_step o e n c rest true so less =
      takes (λ b x. AreArgs bytes (o ∷ b) x) (λ m w. args_from bytes w) (λ m w. give [] w) n c rest (omega (arith, less)) (λ m w some. ap (λ (b : Bool). cond b (give [] w) (some_args_at bytes (c ∷ w))) so)
      (gives (λ b x. AreArgs bytes (o ∷ c ∷ b) x) [] n rest (no_args o c e (mark_is p.CloseParen c so)))
  args_step o e n c rest false off less =
      stays (λ b x. AreArgs bytes (o ∷ b) x) (λ m w. args_from bytes w) (λ m w. some_args_at bytes w) n c rest (omega (arith, less)) (λ m w some. ap (λ (b : Bool). cond b (give [] w) (some_args_at bytes (c ∷ w))) off)
      (some_args_good o e n (c ∷ rest) less)

  args_from_good : (o : TypeLexeme) → Is p.OpenParen o → (n : ℕ) (os : List TypeLexeme) → length os < n → Good (λ b x. AreArgs bytes (o ∷ b) x) (λ m w. args_from bytes w) n os
  args_from_good o e n [] less = none_left (λ b x. AreArgs bytes (o ∷ b) x) (λ m w. args_from bytes w) (λ m w. some_args_at bytes w) n (omega (arith, less)) (λ m some. refl) (some_args_good o e n [] less)
  args_from_good o e n (c ∷ rest) less = args_step o e n c rest (is_mark p.CloseParen c) refl less

  args_good : (n : ℕ) (os : List TypeLexeme) → length os < n → Good (AreArgs bytes) (λ m w. args_at bytes w) n os
  unfolding args_at
  args_good n os less =
      wants (AreArgs bytes) (is_mark p.OpenParen) (a_mark p.OpenParen) (λ m o w. args_from bytes w) n os less (viable _ (paren ∷ []) (no_args (a_mark p.OpenParen) paren refl refl))
      (λ o rest so less. args_from_good o (mark_is p.OpenParen o so) n rest less)

  -- ---- behind the arrow

  result_from_good : (n : ℕ) (os : List TypeLexeme) → length os < n → Good (IsResult bytes) (λ m w. result_from bytes w) n os
  result_from_good n os less =
      thens (AreBinders bytes) (IsResult bytes) (λ m w. binders_at bytes w) (λ m bs. cell_at bytes bs.rest >>= λ x. conds_at bytes x.rest >>= λ cs. give (Some (record { binders = bs.tree; cell = x.tree; conds = cs.tree })) cs.rest) n os less (binders_good bytes n os less)
      (λ a bs s. viable _ (small_cell bytes).more (a_result s (small_cell bytes).spelled_so no_conds))
      (λ a rest bs s less.
      thens (IsCell bytes) (λ b y. IsResult bytes (a ++ b) y) (λ m w. cell_at bytes w) (λ m x. conds_at bytes x.rest >>= λ cs. give (Some (record { binders = bs; cell = x.tree; conds = cs.tree })) cs.rest) n rest less (cell_good bytes n rest less)
      (λ b x t. viable _ [] (a_result s t no_conds))
      (λ b rest x t less. sends (AreConds bytes) (λ c y. IsResult bytes (a ++ (b ++ c)) y) (λ m w. conds_at bytes w) (λ cs. Some (record { binders = bs; cell = x; conds = cs })) n rest (λ c cs u. a_result s t u) (conds_good bytes n rest less)))

  result_step : (n : ℕ) (o : TypeLexeme) (rest : List TypeLexeme) (void : Bool) → is_word tw.Void o ≡ void → length (o ∷ rest) < n → Good (IsResult bytes) (λ m w. result_at bytes w) n (o ∷ rest)
  unfolding result_at
  result_step n o rest true so less =
      takes (IsResult bytes) (λ m w. result_at bytes w) (λ m w. give None w) n o rest (omega (arith, less)) (λ m w some. ap (λ (b : Bool). cond b (give None w) (result_from bytes (o ∷ w))) so)
      (gives (λ b x. IsResult bytes (o ∷ b) x) None n rest (result_void o (word_is tw.Void o so)))
  result_step n o rest false off less =
      stays (IsResult bytes) (λ m w. result_at bytes w) (λ m w. result_from bytes w) n o rest (omega (arith, less)) (λ m w some. ap (λ (b : Bool). cond b (give None w) (result_from bytes (o ∷ w))) off)
      (result_from_good n (o ∷ rest) less)

  result_good : (n : ℕ) (os : List TypeLexeme) → length os < n → Good (IsResult bytes) (λ m w. result_at bytes w) n os
  unfolding result_at
  result_good n [] less = none_left (IsResult bytes) (λ m w. result_at bytes w) (λ m w. result_from bytes w) n (omega (arith, less)) (λ m some. refl) (result_from_good n [] less)
  result_good n (o ∷ rest) less = result_step n o rest (is_word tw.Void o) refl less

  placed_good : (n : ℕ) (os : List TypeLexeme) → length os < n → Good (IsPlaced bytes) (λ m w. placed_at bytes w) n os
  placed_good n os less = makes (IsPlaced bytes) (λ m w. result_at bytes w) placed n os (maps (IsResult bytes) (λ b x. IsPlaced bytes b (placed b x)) (λ m w. result_at bytes w) n os (λ b x s. is_placed s) (result_good n os less))

  -- ---- functions

  -- a function without its place
  abbrev IsParts : List TypeLexeme → FuncBody → Type 0
  IsParts a x = IsFunc bytes a (func_of a x)

  module _ (o : TypeLexeme) (v a b : List TypeLexeme) (name : WordTree) (bs : List WordTree) (xs : List SCellTree) (e : IsWord tw.Fn o) (f : IsFunctionName bytes v name) (g : AreFunctionBinders bytes a bs) (h : AreArgs bytes b xs) where
    spelled : (c d : List TypeLexeme) (cs : List RelationTree) (y : Option SResultTree × Span) (r z : TypeLexeme) → AreConds bytes c cs → Is p.Arrow r → IsPlaced bytes d y → Is p.Semicolon z → IsParts (o ∷ v ++ (a ++ (b ++ (c ++ (r ∷ d ++ z ∷ []))))) (name, bs, xs, cs, y.0, y.1)
    spelled c d cs _ r z i j (is_placed s) k = a_func o r z e f g h i j s k

    end_good : (c : List TypeLexeme) (cs : List RelationTree) (r : TypeLexeme) → AreConds bytes c cs → Is p.Arrow r → (n : ℕ) (os : List TypeLexeme) → length os < n → Good (λ d x. IsParts (o ∷ v ++ (a ++ (b ++ (c ++ (r ∷ d))))) x) (λ m w. func_end bytes name bs xs cs w) n os
    end_good c cs r i j n os less =
        thens (IsPlaced bytes) (λ d x. IsParts (o ∷ v ++ (a ++ (b ++ (c ++ (r ∷ d))))) x) (λ m w. placed_at bytes w) (λ m y. closed_at p.Semicolon (name, bs, xs, cs, y.tree.0, y.tree.1) y.rest) n os less (placed_good n os less)
        (λ d y s. viable (name, bs, xs, cs, y.0, y.1) (semicolon ∷ []) (spelled c d cs y r semicolon i j s refl))
        (λ d rest y s less. closed_good bytes (λ t x. IsParts (o ∷ v ++ (a ++ (b ++ (c ++ (r ∷ d ++ t))))) x) p.Semicolon (name, bs, xs, cs, y.0, y.1) n rest less (λ z k. spelled c d cs y r z i j s k))

    conds_behind : (n : ℕ) (os : List TypeLexeme) → length os < n → Good (λ c x. IsParts (o ∷ v ++ (a ++ (b ++ c))) x) (λ m w. func_conds bytes name bs xs w) n os
    conds_behind n os less =
        thens (AreConds bytes) (λ c x. IsParts (o ∷ v ++ (a ++ (b ++ c))) x) (λ m w. conds_at bytes w) (λ m cs. next_at (is_mark p.Arrow) cs.rest (λ r rest. func_end bytes name bs xs cs.tree rest)) n os less (conds_good bytes n os less)
        (λ c cs i. viable (name, bs, xs, cs, None, span_of (a_word tw.Void ∷ [])) (a_mark p.Arrow ∷ a_word tw.Void ∷ semicolon ∷ []) (a_func o (a_mark p.Arrow) semicolon e f g h i refl (result_void (a_word tw.Void) refl) refl))
        (λ c rest cs i less.
        wants (λ d x. IsParts (o ∷ v ++ (a ++ (b ++ (c ++ d)))) x) (is_mark p.Arrow) (a_mark p.Arrow) (λ m r w. func_end bytes name bs xs cs w) n rest less
        (viable (name, bs, xs, cs, None, span_of (a_word tw.Void ∷ [])) (a_word tw.Void ∷ semicolon ∷ []) (a_func o (a_mark p.Arrow) semicolon e f g h i refl (result_void (a_word tw.Void) refl) refl))
        (λ r rest so less. end_good c cs r i (mark_is p.Arrow r so) n rest less))

  abbrev open_paren : TypeLexeme
  open_paren = a_mark p.OpenParen

  -- an arrow, the word void and a semicolon
  abbrev void_end : List TypeLexeme
  void_end = a_mark p.Arrow ∷ a_word tw.Void ∷ semicolon ∷ []

  abbrev void_body : WordTree → List WordTree → List SCellTree → FuncBody
  void_body name bs xs = (name, bs, xs, [], None, span_of (a_word tw.Void ∷ []))

  from_good : (o : TypeLexeme) → IsWord tw.Fn o → (n : ℕ) (os : List TypeLexeme) → length os < n → Good (λ b x. IsParts (o ∷ b) x) (λ m w. func_from bytes w) n os
  from_good o e n os less =
      thens (IsFunctionName bytes) (λ b x. IsParts (o ∷ b) x) (λ m w. function_name_at bytes w) (λ m v. function_binders_at bytes v.rest >>= λ bs. args_at bytes bs.rest >>= λ xs. func_conds bytes v.tree bs.tree xs.tree xs.rest) n os less (function_name_good n os less)
      (λ v i f. viable (void_body i [] []) (open_paren ∷ paren ∷ void_end) (a_func o (a_mark p.Arrow) semicolon e f no_function_binders (no_args open_paren paren refl refl) no_conds refl (result_void (a_word tw.Void) refl) refl))
      (λ v rest i f less.
      thens (AreFunctionBinders bytes) (λ b x. IsParts (o ∷ v ++ b) x) (λ m w. function_binders_at bytes w) (λ m bs. args_at bytes bs.rest >>= λ xs. func_conds bytes i bs.tree xs.tree xs.rest) n rest less (function_binders_good n rest less)
      (λ a bs g. viable (void_body i bs []) (open_paren ∷ paren ∷ void_end) (a_func o (a_mark p.Arrow) semicolon e f g (no_args open_paren paren refl refl) no_conds refl (result_void (a_word tw.Void) refl) refl))
      (λ a rest bs g less.
      thens (AreArgs bytes) (λ b x. IsParts (o ∷ v ++ (a ++ b)) x) (λ m w. args_at bytes w) (λ m xs. func_conds bytes i bs xs.tree xs.rest) n rest less (args_good n rest less)
      (λ b xs h. viable (void_body i bs xs) void_end (a_func o (a_mark p.Arrow) semicolon e f g h no_conds refl (result_void (a_word tw.Void) refl) refl))
      (λ b rest xs h less. conds_behind o v a b i bs xs e f g h n rest less)))

  pub func_good : (n : ℕ) (os : List TypeLexeme) → length os < n → Good (IsFunc bytes) (λ m w. func_at bytes w) n os
  unfolding func_at
  func_good n os less =
      makes (IsFunc bytes) (λ m w. next_at (is_word tw.Fn) w (λ o rest. func_from bytes rest)) func_of n os
      (wants IsParts (is_word tw.Fn) (a_word tw.Fn) (λ m o w. func_from bytes w) n os less
      (viable (void_body small_function_name.tree [] []) (a_name ∷ open_paren ∷ paren ∷ void_end) (a_func (a_word tw.Fn) (a_mark p.Arrow) semicolon refl small_function_name.spelled_so no_function_binders (no_args open_paren paren refl refl) no_conds refl (result_void (a_word tw.Void) refl) refl))
      (λ o rest so less. from_good o (word_is tw.Fn o so) n rest less))
