-- What is told of the reader of type files.
use Rattle.std.proofs.Common.{◌≡◌, ℕ, zero, suc, ◌<◌, Bool, true, false, cond, List, [], ◌∷◌, ◌++◌, length, refl, ap, ◌∙◌, subst, sym, arith}
use Rattle.cx_cword.specs.declared.word.Punctuator.TheVariants as p
use Rattle.cx_cname.specs.Known.{Known}
use Rattle.cx_tsyn.specs.Items.{RegionItemTree, TypeItemTree, region, func, alloc, global}
use Rattle.cx_tword.specs.declared.word.TypeWord.TheVariants as tw
use Rattle.cx_tword.specs.declared.lexeme.TypeLexeme.{TypeLexeme}
use Rattle.cx_tword.specs.Marks.{is_word}
use Rattle.cx_tword.proofs.Marks.{a_mark, a_word, a_name}
use Rattle.cx_reader.specs.Answers.{Answer, fault, ◌>>=◌, give}
use Rattle.cx_reader.specs.Lists.{no_more, one_more, not_enclosed}
use Rattle.cx_reader.proofs.Laws.{Viable, Good}
use Rattle.cx_reader.proofs.Tells.{viable, gives, fails, maps, stays, none_left, turn_less, thens_turn, sends}
use Rattle.cx_reader.proofs.ListsTold.{Grown, none_grown, join_grown}
use Rattle.cx_tlin.proofs.Told.{small_name}
use Rattle.cx_tregion.specs.Regions.{not_shared, is_shared, IsRegion, a_region, IsGlobal, a_global, global_of}
use Rattle.cx_tregion.specs.Reading.{region_at, global_at}
use Rattle.cx_tregion.proofs.Told.{region_good, global_good}
use Rattle.cx_tfunc.specs.Funcs.{IsFunc, a_func}
use Rattle.cx_tfunc.specs.Reading.{func_at}
use Rattle.cx_tfunc.proofs.Told.{func_good}
use Rattle.cx_talloc.specs.Allocs.{IsAlloc, an_alloc}
use Rattle.cx_talloc.specs.Reading.{alloc_at}
use Rattle.cx_talloc.proofs.Told.{alloc_good}
use Rattle.cx_titem.specs.Items.{IsItem, item_region, item_func, item_alloc, item_global, AreItems}
use Rattle.cx_titem.specs.Reading.{begins_region, region_from, func_from, alloc_from, global_from, item_at, items_at}

module _ (bytes : List ℕ) (env : Known) where
  -- ---- items

  abbrev choice : (region fn alloc global : Bool) → List TypeLexeme → Answer TypeLexeme TypeItemTree
  choice a b c d os =
      cond a (region_from (region_at bytes os)) (cond b (func_from (func_at bytes os)) (cond c (alloc_from (alloc_at bytes env os)) (cond d (global_from (global_at bytes os)) (fault (length os)))))

  pub item_is : (o : TypeLexeme) (w : List TypeLexeme) (a b c d : Bool) → begins_region o ≡ a → is_word tw.Fn o ≡ b → is_word tw.Alloc o ≡ c → is_word tw.Global o ≡ d → item_at bytes env (o ∷ w) ≡ choice a b c d (o ∷ w)
  unfolding item_at
  item_is o w a b c d e f g h = λ i. choice (e i) (f i) (g i) (h i) (o ∷ w)

  abbrev small_global : List TypeLexeme
  small_global = a_word tw.Global ∷ a_name ∷ a_mark p.Assign ∷ a_name ∷ a_mark p.Semicolon ∷ []

  abbrev small_item : Viable (IsItem bytes env)
  small_item = record {
    more = small_global;
    tree = global (global_of small_global ((small_name bytes).tree, (small_name bytes).tree, []));
    spelled_so = item_global (a_global (a_word tw.Global) (a_mark p.Assign) (a_mark p.Semicolon) refl (small_name bytes).spelled_so refl (small_name bytes).spelled_so not_enclosed refl);
  }

  item_step : (n : ℕ) (o : TypeLexeme) (rest : List TypeLexeme) (a b c d : Bool) → begins_region o ≡ a → is_word tw.Fn o ≡ b → is_word tw.Alloc o ≡ c → is_word tw.Global o ≡ d → length (o ∷ rest) < n → Good (IsItem bytes env) (λ m w. item_at bytes env w) n (o ∷ rest)
  item_step n o rest true b c d e f g h less =
      stays (IsItem bytes env) (λ m w. item_at bytes env w) (λ m w. region_from (region_at bytes w)) n o rest (omega (arith, less)) (λ m w some. item_is o w true b c d e f g h)
      (sends (IsRegion bytes) (IsItem bytes env) (λ m w. region_at bytes w) (λ x. region x) n (o ∷ rest) (λ b x s. item_region s) (region_good bytes n (o ∷ rest) less))
  item_step n o rest false true c d e f g h less =
      stays (IsItem bytes env) (λ m w. item_at bytes env w) (λ m w. func_from (func_at bytes w)) n o rest (omega (arith, less)) (λ m w some. item_is o w false true c d e f g h)
      (sends (IsFunc bytes) (IsItem bytes env) (λ m w. func_at bytes w) (λ x. func x) n (o ∷ rest) (λ b x s. item_func s) (func_good bytes n (o ∷ rest) less))
  item_step n o rest false false true d e f g h less =
      stays (IsItem bytes env) (λ m w. item_at bytes env w) (λ m w. alloc_from (alloc_at bytes env w)) n o rest (omega (arith, less)) (λ m w some. item_is o w false false true d e f g h)
      (sends (IsAlloc bytes env) (IsItem bytes env) (λ m w. alloc_at bytes env w) (λ x. alloc x) n (o ∷ rest) (λ b x s. item_alloc s) (alloc_good bytes env n (o ∷ rest) less))
  item_step n o rest false false false true e f g h less =
      stays (IsItem bytes env) (λ m w. item_at bytes env w) (λ m w. global_from (global_at bytes w)) n o rest (omega (arith, less)) (λ m w some. item_is o w false false false true e f g h)
      (sends (IsGlobal bytes) (IsItem bytes env) (λ m w. global_at bytes w) (λ x. global x) n (o ∷ rest) (λ b x s. item_global s) (global_good bytes n (o ∷ rest) less))
  item_step n o rest false false false false e f g h less =
      stays (IsItem bytes env) (λ m w. item_at bytes env w) (λ m w. fault (length w)) n o rest (omega (arith, less)) (λ m w some. item_is o w false false false false e f g h) (fails (IsItem bytes env) n (o ∷ rest) small_item)

  item_good : (n : ℕ) (os : List TypeLexeme) → length os < n → Good (IsItem bytes env) (λ m w. item_at bytes env w) n os
  unfolding item_at
  item_good n [] less = none_left (IsItem bytes env) (λ m w. item_at bytes env w) (λ m w. fault (length w)) n (omega (arith, less)) (λ m some. refl) (fails (IsItem bytes env) n [] small_item)
  item_good n (o ∷ rest) less = item_step n o rest (begins_region o) (is_word tw.Fn o) (is_word tw.Alloc o) (is_word tw.Global o) refl refl refl refl less

  -- an item has a lexeme
  region_filled : {a : List TypeLexeme} {x : RegionItemTree} → IsRegion bytes a x → 0 < length a
  region_filled (a_region {v = v} {b = b} {c = c} o e s not_shared f h t u g k) = omega arith
  region_filled (a_region {v = v} {b = b} {c = c} o e s (is_shared q r) f h t u g k) = omega arith

  pub item_filled : (a : List TypeLexeme) (x : TypeItemTree) → IsItem bytes env a x → 0 < length a
  item_filled a _ (item_region s) = region_filled s
  item_filled _ _ (item_func (a_func o r s e f g h t j k z)) = omega arith
  item_filled _ _ (item_alloc (an_alloc o q i k s e f g h j u v r t)) = omega arith
  item_filled _ _ (item_global (a_global o e s f t g u h z)) = omega arith

  -- ---- files

  one : (a c : List TypeLexeme) (x : TypeItemTree) (xs : List TypeItemTree) → IsItem bytes env a x → AreItems bytes env c xs → AreItems bytes env (a ++ c) (x ∷ xs)
  one a c x xs s ss = one_more s ss

  none_items : (all : List TypeItemTree) → Grown (AreItems bytes env) all [] all
  none_items = none_grown (IsItem bytes env) (AreItems bytes env) one no_more

  abbrev again : List TypeItemTree → ℕ → List TypeLexeme → Answer TypeLexeme (List TypeItemTree)
  again all m w = item_at bytes env w >>= λ x. items_at bytes env (turn_less m) (all ++ x.tree ∷ []) x.rest

  items_end : (all : List TypeItemTree) (m : ℕ) → 0 < m → items_at bytes env m all [] ≡ give all []
  unfolding items_at
  items_end all zero some = absurd (omega (arith, some))
  items_end all (suc m) some = refl

  items_turn : (all : List TypeItemTree) (o : TypeLexeme) (m : ℕ) (w : List TypeLexeme) → 0 < m → items_at bytes env m all (o ∷ w) ≡ again all m (o ∷ w)
  unfolding items_at
  items_turn all o zero w some = absurd (omega (arith, some))
  items_turn all o (suc m) w some = refl

  pub items_good : (n : ℕ) (all : List TypeItemTree) (os : List TypeLexeme) → length os < n → Good (Grown (AreItems bytes env) all) (λ m w. items_at bytes env m all w) n os
  items_good zero all os less = absurd (omega (arith, less))
  items_good (suc n) all [] less = none_left (Grown (AreItems bytes env) all) (λ m w. items_at bytes env m all w) (λ m w. give all w) (suc n) (omega arith) (items_end all) (gives (Grown (AreItems bytes env) all) all (suc n) [] (none_items all))
  items_good (suc n) all (o ∷ rest) less =
      stays (Grown (AreItems bytes env) all) (λ m w. items_at bytes env m all w) (again all) (suc n) o rest (omega arith) (items_turn all o)
      (thens_turn (IsItem bytes env) (Grown (AreItems bytes env) all) (λ m w. item_at bytes env w) (λ m x. items_at bytes env m (all ++ x.tree ∷ []) x.rest) n (o ∷ rest) item_filled less (item_good (suc n) (o ∷ rest) less)
      (λ a x s. viable (all ++ x ∷ []) [] (join_grown (IsItem bytes env) (AreItems bytes env) one all a [] x (all ++ x ∷ []) s (none_items (all ++ x ∷ []))))
      (λ a rest x s less. maps (Grown (AreItems bytes env) (all ++ x ∷ [])) (λ b ys. Grown (AreItems bytes env) all (a ++ b) ys) (λ m w. items_at bytes env m (all ++ x ∷ []) w) n rest (λ b ys g. join_grown (IsItem bytes env) (AreItems bytes env) one all a b x ys s g) (items_good n (all ++ x ∷ []) rest less)))

  only : (b : List TypeLexeme) (xs : List TypeItemTree) → Grown (AreItems bytes env) [] b xs → AreItems bytes env b xs
  only b xs g = subst (AreItems bytes env b) (sym g.parts) g.are

  pub file_good : (n : ℕ) (os : List TypeLexeme) → length os < n → Good (AreItems bytes env) (λ m w. items_at bytes env m [] w) n os
  file_good n os less = maps (Grown (AreItems bytes env) []) (AreItems bytes env) (λ m w. items_at bytes env m [] w) n os only (items_good n [] os less)
