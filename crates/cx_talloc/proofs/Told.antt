-- What is told of the reader of allocators.
use Rattle.std.proofs.Common.{◌≡◌, ℕ, pos, ◌<◌, true, false, List, [], ◌∷◌, ◌++◌, length, Option, Some, None, refl, ap, arith}
use Rattle.cx_cword.specs.declared.lexeme.LexemeKind.TheVariants as cl
use Rattle.cx_cword.specs.declared.word.Punctuator.TheVariants as p
use Rattle.cx_cword.specs.Reading.{span_between}
use Rattle.cx_ctree.specs.Types.{void}
use Rattle.cx_cname.specs.Known.{Known}
use Rattle.cx_tsyn.specs.Words.{WordTree}
use Rattle.cx_tsyn.specs.Items.{number, param, over}
use Rattle.cx_tword.specs.declared.word.TypeWord.TheVariants as tw
use Rattle.cx_tword.specs.declared.lexeme.TypeLexeme.{TypeLexeme}
use Rattle.cx_tword.specs.declared.lexeme.TypeLexemeKind.{TypeLexemeKind}
use Rattle.cx_tword.specs.declared.lexeme.TypeLexemeKind.TheVariants as l
use Rattle.cx_tword.specs.Marks.{Is, IsWord, is_mark, is_word}
use Rattle.cx_tword.proofs.Marks.{mark_is, word_is, a_mark, a_word, a_name}
use Rattle.cx_reader.specs.Answers.{fault, ◌>>=◌, give, next_at}
use Rattle.cx_reader.specs.Lists.{no_more, listed, not_enclosed}
use Rattle.cx_reader.proofs.Laws.{Viable, Good}
use Rattle.cx_reader.proofs.Tells.{viable, gives, fails, maps, takes, stays, none_left, thens, sends, wants, may, makes}
use Rattle.cx_tlin.specs.Lins.{IsName, named, AreNames}
use Rattle.cx_tlin.specs.Reading.{word_at, name_at, names_at}
use Rattle.cx_tlin.proofs.Told.{small_name, name_good, names_good}
use Rattle.cx_tcell.specs.Cells.{InParentheses}
use Rattle.cx_tcell.specs.Reading.{in_parentheses_at}
use Rattle.cx_tcell.proofs.Told.{in_parentheses_good}
use Rattle.cx_ttype.specs.Reading.{closed_at}
use Rattle.cx_ttype.proofs.Told.{closed_good}
use Rattle.cx_tfunc.specs.Funcs.{IsFunctionName}
use Rattle.cx_tfunc.specs.Reading.{function_name_at}
use Rattle.cx_tfunc.proofs.Told.{small_function_name, function_name_good}
use Rattle.cx_tctype.specs.Pointees.{PointeeTree, known, IsCType}
use Rattle.cx_tctype.specs.Reading.{ctype_at}
use Rattle.cx_tctype.proofs.Told.{small_ctype, ctype_good}
use Rattle.cx_talloc.specs.Allocs.{divisor_kind, is_equals, IsArg, arg_number, arg_param, arg_over, IsFactor, no_factor, a_factor, IsZero, not_zero, is_zero, HeadTree, PlacedTree, BlockTree, SizeTree, IsHead, a_head, IsBlock, a_block, IsSize, a_size, AllocBody, alloc_of, IsAlloc, an_alloc}
use Rattle.cx_talloc.specs.Reading.{divisor_by, divisor_at, param_at, arg_by, arg_at, head_from, head_at, placed, placed_at, block_at, factor_at, zero_at, size_at, alloc_size, alloc_block, alloc_type, alloc_from, alloc_at}

-- a type of C with its place
pub data IsPlaced (env : Known) : List TypeLexeme → PlacedTree → Type 0 where
  is_placed : {a : List TypeLexeme} {x : PointeeTree} → IsCType env a x → IsPlaced env a (placed a x)

zero_good : (n : ℕ) (os : List TypeLexeme) → length os < n → Good IsZero (λ m w. zero_at w) n os
unfolding zero_at
zero_good n os less =
    may IsZero (is_word tw.Zero) false not_zero (λ m o w. give true w) n os less
    (λ o rest so less. gives (λ b x. IsZero (o ∷ b) x) true n rest (is_zero o (word_is tw.Zero o so)))

abbrev a_one : TypeLexeme
a_one = record { span = span_between 0 0; kind = l.Number (pos 1); c_kind = cl.Other }

module _ (bytes : List ℕ) where
  -- ---- arguments

  abbrev small_arg : Viable (IsArg bytes)
  small_arg = record { more = a_name ∷ []; tree = param (small_name bytes).tree; spelled_so = arg_param (small_name bytes).spelled_so }

  module _ (o : TypeLexeme) (e : o.kind ≡ l.Name) where
    abbrev w : WordTree
    w = word_at bytes o.span

    over_step : (s : TypeLexeme) → Is p.Slash s → (n : ℕ) (d : TypeLexeme) (rest : List TypeLexeme) (divisor : Option ℕ) → divisor_kind d.kind ≡ divisor → length (d ∷ rest) < n → Good (λ b x. IsArg bytes (o ∷ s ∷ b) x) (λ m v. divisor_at w v) n (d ∷ rest)
    over_step s f n d rest (Some k) g less =
        takes (λ b x. IsArg bytes (o ∷ s ∷ b) x) (λ m v. divisor_at w v) (λ m v. give (over w k d.span) v) n d rest (omega (arith, less)) (λ m v some. ap (divisor_by w d (d ∷ v) v) g)
        (gives (λ b x. IsArg bytes (o ∷ s ∷ d ∷ b) x) (over w k d.span) n rest (arg_over s d k (named o e) f g))
    over_step s f n d rest None g less =
        stays (λ b x. IsArg bytes (o ∷ s ∷ b) x) (λ m v. divisor_at w v) (λ m v. fault (length v)) n d rest (omega (arith, less)) (λ m v some. ap (divisor_by w d (d ∷ v) v) g)
        (fails (λ b x. IsArg bytes (o ∷ s ∷ b) x) n (d ∷ rest) (viable (over w 1 a_one.span) (a_one ∷ []) (arg_over s a_one 1 (named o e) f refl)))

    over_good : (s : TypeLexeme) → Is p.Slash s → (n : ℕ) (os : List TypeLexeme) → length os < n → Good (λ b x. IsArg bytes (o ∷ s ∷ b) x) (λ m v. divisor_at w v) n os
    over_good s f n [] less =
        none_left (λ b x. IsArg bytes (o ∷ s ∷ b) x) (λ m v. divisor_at w v) (λ m v. fault (length v)) n (omega (arith, less)) (λ m some. refl)
        (fails (λ b x. IsArg bytes (o ∷ s ∷ b) x) n [] (viable (over w 1 a_one.span) (a_one ∷ []) (arg_over s a_one 1 (named o e) f refl)))
    over_good s f n (d ∷ rest) less = over_step s f n d rest (divisor_kind d.kind) refl less

    param_good : (n : ℕ) (os : List TypeLexeme) → length os < n → Good (λ b x. IsArg bytes (o ∷ b) x) (λ m v. param_at w v) n os
    param_good n os less =
        may (λ b x. IsArg bytes (o ∷ b) x) (is_mark p.Slash) (param w) (arg_param (named o e)) (λ m s v. divisor_at w v) n os less
        (λ s rest so less. over_good s (mark_is p.Slash s so) n rest less)

  arg_step : (n : ℕ) (o : TypeLexeme) (rest : List TypeLexeme) (kind : TypeLexemeKind) → length (o ∷ rest) < n → o.kind ≡ kind → Good (IsArg bytes) (λ m v. arg_at bytes v) n (o ∷ rest)
  unfolding arg_at
  arg_step n o rest (l.Number z) less e =
      takes (IsArg bytes) (λ m v. arg_at bytes v) (λ m v. give (number z) v) n o rest (omega (arith, less)) (λ m v some. ap (arg_by bytes o (o ∷ v) v) e) (gives (λ b x. IsArg bytes (o ∷ b) x) (number z) n rest (arg_number o z e))
  arg_step n o rest l.Name less e =
      takes (IsArg bytes) (λ m v. arg_at bytes v) (λ m v. param_at (word_at bytes o.span) v) n o rest (omega (arith, less)) (λ m v some. ap (arg_by bytes o (o ∷ v) v) e) (param_good o e n rest (omega (arith, less)))
  arg_step n o rest _ less e = stays (IsArg bytes) (λ m v. arg_at bytes v) (λ m v. fault (length v)) n o rest (omega (arith, less)) (λ m v some. ap (arg_by bytes o (o ∷ v) v) e) (fails (IsArg bytes) n (o ∷ rest) small_arg)

  arg_good : (n : ℕ) (os : List TypeLexeme) → length os < n → Good (IsArg bytes) (λ m v. arg_at bytes v) n os
  unfolding arg_at
  arg_good n [] less = none_left (IsArg bytes) (λ m v. arg_at bytes v) (λ m v. fault (length v)) n (omega (arith, less)) (λ m some. refl) (fails (IsArg bytes) n [] small_arg)
  arg_good n (o ∷ rest) less = arg_step n o rest o.kind less refl

  -- ---- the pieces

  abbrev paren : TypeLexeme
  paren = a_mark p.CloseParen

  abbrev open_paren : TypeLexeme
  open_paren = a_mark p.OpenParen

  abbrev one_name : Viable (AreNames bytes)
  one_name = record { more = a_name ∷ []; tree = (small_name bytes).tree ∷ []; spelled_so = listed (small_name bytes).spelled_so no_more }

  head_from_good : (v : List TypeLexeme) (name : WordTree) (e : TypeLexeme) → IsFunctionName bytes v name → Is p.OpenParen e → (n : ℕ) (os : List TypeLexeme) → length os < n → Good (λ b x. IsHead bytes (v ++ (e ∷ b)) x) (λ m w. head_from bytes name w) n os
  head_from_good v name e f g n os less =
      thens (AreNames bytes) (λ b x. IsHead bytes (v ++ (e ∷ b)) x) (λ m w. names_at bytes w) (λ m xs. closed_at p.CloseParen (record { name = name; params = xs.tree }) xs.rest) n os less (names_good bytes n os less)
      (λ a xs s. viable (record { name = name; params = xs }) (paren ∷ []) (a_head e paren f g s refl))
      (λ a rest xs s less. closed_good bytes (λ b x. IsHead bytes (v ++ (e ∷ a ++ b)) x) p.CloseParen (record { name = name; params = xs }) n rest less (λ r h. a_head e r f g s h))

  abbrev small_head : Viable (IsHead bytes)
  small_head = record { more = a_name ∷ open_paren ∷ a_name ∷ paren ∷ []; tree = record { name = (small_function_name bytes).tree; params = one_name.tree }; spelled_so = a_head open_paren paren (small_function_name bytes).spelled_so refl one_name.spelled_so refl }

  head_good : (n : ℕ) (os : List TypeLexeme) → length os < n → Good (IsHead bytes) (λ m w. head_at bytes w) n os
  unfolding head_at
  head_good n os less =
      thens (IsFunctionName bytes) (IsHead bytes) (λ m w. function_name_at bytes w) (λ m v. next_at (is_mark p.OpenParen) v.rest (λ e rest. head_from bytes v.tree rest)) n os less (function_name_good bytes n os less)
      (λ v i f. viable (record { name = i; params = one_name.tree }) (open_paren ∷ a_name ∷ paren ∷ []) (a_head open_paren paren f refl one_name.spelled_so refl))
      (λ v rest i f less.
      wants (λ b x. IsHead bytes (v ++ b) x) (is_mark p.OpenParen) open_paren (λ m e w. head_from bytes i w) n rest less
      (viable (record { name = i; params = one_name.tree }) (a_name ∷ paren ∷ []) (a_head open_paren paren f refl one_name.spelled_so refl))
      (λ e rest so less. head_from_good v i e f (mark_is p.OpenParen e so) n rest less))

  abbrev small_block : Viable (IsBlock bytes)
  small_block = record { more = a_name ∷ []; tree = record { region = (small_name bytes).tree; args = [] }; spelled_so = a_block (small_name bytes).spelled_so not_enclosed }

  block_good : (n : ℕ) (os : List TypeLexeme) → length os < n → Good (IsBlock bytes) (λ m w. block_at bytes w) n os
  unfolding block_at
  block_good n os less =
      thens (IsName bytes) (IsBlock bytes) (λ m w. name_at bytes w) (λ m c. in_parentheses_at (arg_at bytes) c.rest >>= λ xs. give (record { region = c.tree; args = xs.tree }) xs.rest) n os less (name_good bytes n os less)
      (λ c i s. viable _ [] (a_block s not_enclosed))
      (λ c rest i s less. sends (InParentheses (IsArg bytes)) (λ d x. IsBlock bytes (c ++ d) x) (λ m w. in_parentheses_at (arg_at bytes) w) (λ xs. record { region = i; args = xs }) n rest (λ d xs t. a_block s t) (in_parentheses_good (IsArg bytes) (arg_at bytes) small_arg arg_good n rest less))

  factor_good : (n : ℕ) (os : List TypeLexeme) → length os < n → Good (IsFactor bytes) (λ m w. factor_at bytes w) n os
  unfolding factor_at
  factor_good n os less =
      may (IsFactor bytes) (is_mark p.Star) None no_factor (λ m o w. name_at bytes w >>= λ x. give (Some x.tree) x.rest) n os less
      (λ o rest so less. sends (IsName bytes) (λ b x. IsFactor bytes (o ∷ b) x) (λ m w. name_at bytes w) (λ x. Some x) n rest (λ b x s. a_factor o (mark_is p.Star o so) s) (name_good bytes n rest less))

  abbrev small_size : Viable (IsSize bytes)
  small_size = record { more = a_name ∷ []; tree = record { bytes = (small_name bytes).tree; times = None; zero = false }; spelled_so = a_size (small_name bytes).spelled_so no_factor not_zero }

  size_good : (n : ℕ) (os : List TypeLexeme) → length os < n → Good (IsSize bytes) (λ m w. size_at bytes w) n os
  unfolding size_at
  size_good n os less =
      thens (IsName bytes) (IsSize bytes) (λ m w. name_at bytes w) (λ m f. factor_at bytes f.rest >>= λ g. zero_at g.rest >>= λ h. give (record { bytes = f.tree; times = g.tree; zero = h.tree }) h.rest) n os less (name_good bytes n os less)
      (λ f i s. viable _ [] (a_size s no_factor not_zero))
      (λ f rest i s less.
      thens (IsFactor bytes) (λ b x. IsSize bytes (f ++ b) x) (λ m w. factor_at bytes w) (λ m g. zero_at g.rest >>= λ h. give (record { bytes = i; times = g.tree; zero = h.tree }) h.rest) n rest less (factor_good n rest less)
      (λ g j t. viable _ [] (a_size s t not_zero))
      (λ g rest j t less. sends IsZero (λ h x. IsSize bytes (f ++ (g ++ h)) x) (λ m w. zero_at w) (λ z. record { bytes = i; times = j; zero = z }) n rest (λ h z u. a_size s t u) (zero_good n rest less)))

  module _ (env : Known) where
    placed_good : (n : ℕ) (os : List TypeLexeme) → length os < n → Good (IsPlaced env) (λ m w. placed_at env w) n os
    placed_good n os less = makes (IsPlaced env) (λ m w. ctype_at env w) placed n os (maps (IsCType env) (λ b x. IsPlaced env b (placed b x)) (λ m w. ctype_at env w) n os (λ b x s. is_placed s) (ctype_good env n os less))

    -- ---- allocators

    abbrev semicolon : TypeLexeme
    semicolon = a_mark p.Semicolon

    abbrev equals : TypeLexeme
    equals = a_mark p.Assign

    abbrev bytes_word : TypeLexeme
    bytes_word = a_word tw.Bytes

    abbrev for_word : TypeLexeme
    for_word = a_word tw.For

    -- an allocator without its place
    abbrev IsParts : List TypeLexeme → AllocBody → Type 0
    IsParts a x = IsAlloc bytes env a (alloc_of a x)

    spelled : (a b c d : List TypeLexeme) (x : HeadTree) (t : PlacedTree) (y : BlockTree) (z : SizeTree) (o q i k s : TypeLexeme) → IsWord tw.Alloc o → IsHead bytes a x → IsWord tw.For q → IsPlaced env b t → is_equals i ≡ true → IsBlock bytes c y → IsWord tw.Bytes k → IsSize bytes d z → Is p.Semicolon s
        → IsParts (o ∷ a ++ (q ∷ b ++ (i ∷ c ++ (k ∷ d ++ s ∷ [])))) (x, t, y, z)
    spelled a b c d x _ y z o q i k s e f g (is_placed h) j u v r t = an_alloc o q i k s e f g h j u v r t

    -- the smallest type of C with its place
    abbrev small_placed : Viable (IsPlaced env)
    small_placed = record { more = a_word tw.Void ∷ []; tree = placed (a_word tw.Void ∷ []) (known void); spelled_so = is_placed (small_ctype env).spelled_so }

    -- the shortest ends
    abbrev size_end : List TypeLexeme
    size_end = a_name ∷ semicolon ∷ []

    abbrev block_end : List TypeLexeme
    block_end = a_name ∷ bytes_word ∷ size_end

    abbrev type_end : List TypeLexeme
    type_end = a_word tw.Void ∷ equals ∷ block_end

    module _ (o : TypeLexeme) (e : IsWord tw.Alloc o) where
      size_behind : (a b c : List TypeLexeme) (x : HeadTree) (t : PlacedTree) (y : BlockTree) (q i k : TypeLexeme) → IsHead bytes a x → IsWord tw.For q → IsPlaced env b t → is_equals i ≡ true → IsBlock bytes c y → IsWord tw.Bytes k
          → (n : ℕ) (os : List TypeLexeme) → length os < n → Good (λ d z. IsParts (o ∷ a ++ (q ∷ b ++ (i ∷ c ++ (k ∷ d)))) z) (λ m w. alloc_size bytes x t y w) n os
      size_behind a b c x t y q i k f g h j u v n os less =
          thens (IsSize bytes) (λ d z. IsParts (o ∷ a ++ (q ∷ b ++ (i ∷ c ++ (k ∷ d)))) z) (λ m w. size_at bytes w) (λ m z. closed_at p.Semicolon (x, t, y, z.tree) z.rest) n os less (size_good n os less)
          (λ d z r. viable (x, t, y, z) (semicolon ∷ []) (spelled a b c d x t y z o q i k semicolon e f g h j u v r refl))
          (λ d rest z r less. closed_good bytes (λ s z. IsParts (o ∷ a ++ (q ∷ b ++ (i ∷ c ++ (k ∷ d ++ s)))) z) p.Semicolon (x, t, y, z) n rest less (λ s r2. spelled a b c d x t y z o q i k s e f g h j u v r r2))

      block_behind : (a b : List TypeLexeme) (x : HeadTree) (t : PlacedTree) (q i : TypeLexeme) → IsHead bytes a x → IsWord tw.For q → IsPlaced env b t → is_equals i ≡ true
          → (n : ℕ) (os : List TypeLexeme) → length os < n → Good (λ c z. IsParts (o ∷ a ++ (q ∷ b ++ (i ∷ c))) z) (λ m w. alloc_block bytes x t w) n os
      block_behind a b x t q i f g h j n os less =
          thens (IsBlock bytes) (λ c z. IsParts (o ∷ a ++ (q ∷ b ++ (i ∷ c))) z) (λ m w. block_at bytes w) (λ m y. next_at (is_word tw.Bytes) y.rest (λ k rest. alloc_size bytes x t y.tree rest)) n os less (block_good n os less)
          (λ c y u. viable (x, t, y, small_size.tree) (bytes_word ∷ size_end) (spelled a b c (a_name ∷ []) x t y small_size.tree o q i bytes_word semicolon e f g h j u refl small_size.spelled_so refl))
          (λ c rest y u less.
          wants (λ d z. IsParts (o ∷ a ++ (q ∷ b ++ (i ∷ c ++ d))) z) (is_word tw.Bytes) bytes_word (λ m k w. alloc_size bytes x t y w) n rest less
          (viable (x, t, y, small_size.tree) size_end (spelled a b c (a_name ∷ []) x t y small_size.tree o q i bytes_word semicolon e f g h j u refl small_size.spelled_so refl))
          (λ k rest so less. size_behind a b c x t y q i k f g h j u (word_is tw.Bytes k so) n rest less))

      type_behind : (a : List TypeLexeme) (x : HeadTree) (q : TypeLexeme) → IsHead bytes a x → IsWord tw.For q → (n : ℕ) (os : List TypeLexeme) → length os < n → Good (λ b z. IsParts (o ∷ a ++ (q ∷ b)) z) (λ m w. alloc_type bytes env x w) n os
      type_behind a x q f g n os less =
          thens (IsPlaced env) (λ b z. IsParts (o ∷ a ++ (q ∷ b)) z) (λ m w. placed_at env w) (λ m t. next_at is_equals t.rest (λ i rest. alloc_block bytes x t.tree rest)) n os less (placed_good n os less)
          (λ b t h. viable (x, t, small_block.tree, small_size.tree) (equals ∷ block_end) (spelled a b (a_name ∷ []) (a_name ∷ []) x t small_block.tree small_size.tree o q equals bytes_word semicolon e f g h refl small_block.spelled_so refl small_size.spelled_so refl))
          (λ b rest t h less.
          wants (λ c z. IsParts (o ∷ a ++ (q ∷ b ++ c)) z) is_equals equals (λ m i w. alloc_block bytes x t w) n rest less
          (viable (x, t, small_block.tree, small_size.tree) block_end (spelled a b (a_name ∷ []) (a_name ∷ []) x t small_block.tree small_size.tree o q equals bytes_word semicolon e f g h refl small_block.spelled_so refl small_size.spelled_so refl))
          (λ i rest so less. block_behind a b x t q i f g h so n rest less))

      from_good : (n : ℕ) (os : List TypeLexeme) → length os < n → Good (λ a z. IsParts (o ∷ a) z) (λ m w. alloc_from bytes env w) n os
      from_good n os less =
          thens (IsHead bytes) (λ a z. IsParts (o ∷ a) z) (λ m w. head_at bytes w) (λ m x. next_at (is_word tw.For) x.rest (λ q rest. alloc_type bytes env x.tree rest)) n os less (head_good n os less)
          (λ a x f. viable (x, small_placed.tree, small_block.tree, small_size.tree) (for_word ∷ type_end) (spelled a (a_word tw.Void ∷ []) (a_name ∷ []) (a_name ∷ []) x small_placed.tree small_block.tree small_size.tree o for_word equals bytes_word semicolon e f refl small_placed.spelled_so refl small_block.spelled_so refl small_size.spelled_so refl))
          (λ a rest x f less.
          wants (λ b z. IsParts (o ∷ a ++ b) z) (is_word tw.For) for_word (λ m q w. alloc_type bytes env x w) n rest less
          (viable (x, small_placed.tree, small_block.tree, small_size.tree) type_end (spelled a (a_word tw.Void ∷ []) (a_name ∷ []) (a_name ∷ []) x small_placed.tree small_block.tree small_size.tree o for_word equals bytes_word semicolon e f refl small_placed.spelled_so refl small_block.spelled_so refl small_size.spelled_so refl))
          (λ q rest so less. type_behind a x q f (word_is tw.For q so) n rest less))

    pub alloc_good : (n : ℕ) (os : List TypeLexeme) → length os < n → Good (IsAlloc bytes env) (λ m w. alloc_at bytes env w) n os
    unfolding alloc_at
    alloc_good n os less =
        makes (IsAlloc bytes env) (λ m w. next_at (is_word tw.Alloc) w (λ o rest. alloc_from bytes env rest)) alloc_of n os
        (wants IsParts (is_word tw.Alloc) (a_word tw.Alloc) (λ m o w. alloc_from bytes env w) n os less
        (viable (small_head.tree, small_placed.tree, small_block.tree, small_size.tree) (small_head.more ++ (for_word ∷ type_end))
        (spelled small_head.more (a_word tw.Void ∷ []) (a_name ∷ []) (a_name ∷ []) small_head.tree small_placed.tree small_block.tree small_size.tree (a_word tw.Alloc) for_word equals bytes_word semicolon refl small_head.spelled_so refl small_placed.spelled_so refl small_block.spelled_so refl small_size.spelled_so refl))
        (λ o rest so less. from_good o (word_is tw.Alloc o so) n rest less))
