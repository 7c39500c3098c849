-- What spells a type file is read, and all of it.
use Rattle.std.proofs.Common.{◌≡◌, ℕ, zero, suc, ◌<◌, Bool, true, false, List, [], ◌∷◌, ◌++◌, length, refl, sym, ap, ◌∙◌, subst, append_assoc, append-nil, length-append, arith}
use Rattle.std.specs.Prelude.{◌||◌}
use Rattle.cx_cname.specs.Known.{Known}
use Rattle.cx_tsyn.specs.Items.{RegionItemTree, FuncItemTree, AllocItemTree, GlobalItemTree, TypeItemTree}
use Rattle.cx_tword.specs.declared.word.TypeWord.{TypeWord}
use Rattle.cx_tword.specs.declared.word.TypeWord.TheVariants as tw
use Rattle.cx_tword.specs.declared.lexeme.TypeLexeme.{TypeLexeme}
use Rattle.cx_tword.specs.declared.lexeme.TypeLexemeKind.{TypeLexemeKind}
use Rattle.cx_tword.specs.Marks.{IsWord, kind_is_word}
use Rattle.cx_reader.specs.Answers.{Got, Answer, read, fault, ◌>>=◌, give}
use Rattle.cx_reader.specs.Lists.{no_more, one_more}
use Rattle.cx_tregion.specs.Regions.{not_shared, is_shared, IsRegion, a_region, IsGlobal, a_global}
use Rattle.cx_tregion.specs.Reading.{region_at, global_at}
use Rattle.cx_tregion.proofs.There.{region_there, global_there}
use Rattle.cx_tfunc.specs.Funcs.{IsFunc, a_func}
use Rattle.cx_tfunc.specs.Reading.{func_at}
use Rattle.cx_tfunc.proofs.There.{func_there}
use Rattle.cx_talloc.specs.Allocs.{IsAlloc, an_alloc}
use Rattle.cx_talloc.specs.Reading.{alloc_at}
use Rattle.cx_talloc.proofs.There.{alloc_there}
use Rattle.cx_titem.specs.Items.{IsItem, item_region, item_func, item_alloc, item_global, AreItems}
use Rattle.cx_titem.specs.Reading.{region_from, func_from, alloc_from, global_from, item_at, items_at}
use Rattle.cx_titem.proofs.Told.{item_is, item_filled}

-- the lexemes begin with this word
record Led (word : TypeWord) (a : List TypeLexeme) : Type 0 where
  o : TypeLexeme
  more : List TypeLexeme
  parts : a ≡ o ∷ more
  so : IsWord word o

abbrev kind_begins : TypeLexemeKind → Bool
kind_begins k = kind_is_word tw.Shared k || kind_is_word tw.Region k

module _ (bytes : List ℕ) (env : Known) where
  led_is : (word : TypeWord) (a rest : List TypeLexeme) (h : Led word a) (r : Answer TypeLexeme TypeItemTree) → item_at bytes env (h.o ∷ (h.more ++ rest)) ≡ r → item_at bytes env (a ++ rest) ≡ r
  led_is word a rest h r e = ap (λ (v : List TypeLexeme). item_at bytes env (v ++ rest)) h.parts ∙ e

  func_led : {a : List TypeLexeme} {x : FuncItemTree} → IsFunc bytes a x → Led tw.Fn a
  func_led (a_func {v = v} {a = a} {b = b} {c = c} {d = d} o r s e f g h t j k z) = record { o = o; more = v ++ (a ++ (b ++ (c ++ (r ∷ d ++ s ∷ [])))); parts = refl; so = e }

  alloc_led : {a : List TypeLexeme} {x : AllocItemTree} → IsAlloc bytes env a x → Led tw.Alloc a
  alloc_led (an_alloc {a = a} {b = b} {c = c} {d = d} o q i k s e f g h j u v r t) = record { o = o; more = a ++ (q ∷ b ++ (i ∷ c ++ (k ∷ d ++ s ∷ []))); parts = refl; so = e }

  global_led : {a : List TypeLexeme} {x : GlobalItemTree} → IsGlobal bytes a x → Led tw.Global a
  global_led (a_global {v = v} {c = c} {d = d} o e s f t g u h z) = record { o = o; more = v ++ (e ∷ c ++ (d ++ s ∷ [])); parts = refl; so = f }

  region_item : {a : List TypeLexeme} {x : RegionItemTree} → IsRegion bytes a x → (rest : List TypeLexeme) → item_at bytes env (a ++ rest) ≡ region_from (region_at bytes (a ++ rest))
  region_item (a_region {v = v} {b = b} {c = c} o e s not_shared f h t u g k) rest =
      item_is bytes env o ((v ++ (b ++ (e ∷ c ++ s ∷ []))) ++ rest) true false false false (ap kind_begins f) (ap (kind_is_word tw.Fn) f) (ap (kind_is_word tw.Alloc) f) (ap (kind_is_word tw.Global) f)
  region_item (a_region {v = v} {b = b} {c = c} o e s (is_shared q r) f h t u g k) rest =
      item_is bytes env q ((o ∷ v ++ (b ++ (e ∷ c ++ s ∷ []))) ++ rest) true false false false (ap kind_begins r) (ap (kind_is_word tw.Fn) r) (ap (kind_is_word tw.Alloc) r) (ap (kind_is_word tw.Global) r)

  func_item : {a : List TypeLexeme} {x : FuncItemTree} → IsFunc bytes a x → (rest : List TypeLexeme) → item_at bytes env (a ++ rest) ≡ func_from (func_at bytes (a ++ rest))
  func_item {a} s rest =
      let h = func_led s in
      subst (λ (v : List TypeLexeme). item_at bytes env (v ++ rest) ≡ func_from (func_at bytes (v ++ rest))) (sym h.parts)
      (item_is bytes env h.o (h.more ++ rest) false true false false (ap kind_begins h.so) (ap (kind_is_word tw.Fn) h.so) (ap (kind_is_word tw.Alloc) h.so) (ap (kind_is_word tw.Global) h.so))

  alloc_item : {a : List TypeLexeme} {x : AllocItemTree} → IsAlloc bytes env a x → (rest : List TypeLexeme) → item_at bytes env (a ++ rest) ≡ alloc_from (alloc_at bytes env (a ++ rest))
  alloc_item {a} s rest =
      let h = alloc_led s in
      subst (λ (v : List TypeLexeme). item_at bytes env (v ++ rest) ≡ alloc_from (alloc_at bytes env (v ++ rest))) (sym h.parts)
      (item_is bytes env h.o (h.more ++ rest) false false true false (ap kind_begins h.so) (ap (kind_is_word tw.Fn) h.so) (ap (kind_is_word tw.Alloc) h.so) (ap (kind_is_word tw.Global) h.so))

  global_item : {a : List TypeLexeme} {x : GlobalItemTree} → IsGlobal bytes a x → (rest : List TypeLexeme) → item_at bytes env (a ++ rest) ≡ global_from (global_at bytes (a ++ rest))
  global_item {a} s rest =
      let h = global_led s in
      subst (λ (v : List TypeLexeme). item_at bytes env (v ++ rest) ≡ global_from (global_at bytes (v ++ rest))) (sym h.parts)
      (item_is bytes env h.o (h.more ++ rest) false false false true (ap kind_begins h.so) (ap (kind_is_word tw.Fn) h.so) (ap (kind_is_word tw.Alloc) h.so) (ap (kind_is_word tw.Global) h.so))

  item_there : {a : List TypeLexeme} {x : TypeItemTree} → IsItem bytes env a x → (rest : List TypeLexeme) → item_at bytes env (a ++ rest) ≡ give x rest
  item_there (item_region s) rest = region_item s rest ∙ ap region_from (region_there bytes s rest)
  item_there (item_func s) rest = func_item s rest ∙ ap func_from (func_there bytes s rest)
  item_there (item_alloc s) rest = alloc_item s rest ∙ ap alloc_from (alloc_there bytes env s rest)
  item_there (item_global s) rest = global_item s rest ∙ ap global_from (global_there bytes s rest)

  -- ---- files

  abbrev again : List TypeItemTree → ℕ → Got TypeLexeme TypeItemTree → Answer TypeLexeme (List TypeItemTree)
  again all n x = items_at bytes env n (all ++ x.tree ∷ []) x.rest

  items_go : (all : List TypeItemTree) (n : ℕ) (os : List TypeLexeme) → 0 < length os → items_at bytes env (suc n) all os ≡ (item_at bytes env os >>= again all n)
  unfolding items_at
  items_go all n [] some = absurd (omega (arith, some))
  items_go all n (o ∷ os) some = refl

  items_done : (all : List TypeItemTree) (n : ℕ) → items_at bytes env (suc n) all [] ≡ give all []
  unfolding items_at
  items_done all n = refl

  items_there : {os : List TypeLexeme} {xs : List TypeItemTree} → AreItems bytes env os xs → (n : ℕ) (all : List TypeItemTree) → length os < n → items_at bytes env n all os ≡ give (all ++ xs) []
  items_there no_more zero all less = absurd (omega (arith, less))
  items_there no_more (suc n) all less = items_done all n ∙ ap (λ (v : List TypeItemTree). give v []) (sym (append-nil all))
  items_there (one_more s ss) zero all less = absurd (omega (arith, less))
  items_there (one_more {a = a} {c = c} {x = x} {xs = xs} s ss) (suc n) all less =
      let some = item_filled bytes env a x s in
      let long = length-append a c in
      items_go all n (a ++ c) (omega (arith, some, long))
      ∙ ap (λ (r : Answer TypeLexeme TypeItemTree). r >>= again all n) (item_there s c)
      ∙ items_there ss n (all ++ x ∷ []) (omega (arith, less, long, some))
      ∙ ap (λ (v : List TypeItemTree). give v []) (append_assoc all (x ∷ []) xs)

  pub file_there : (n : ℕ) (os : List TypeLexeme) (xs : List TypeItemTree) → AreItems bytes env os xs → length os < n → items_at bytes env n [] os ≡ give xs []
  file_there n os xs s less = items_there s n [] less

  -- where it reads, no lexeme is left
  abbrev rest_of : Answer TypeLexeme (List TypeItemTree) → List TypeLexeme
  rest_of (read g) = g.rest
  rest_of (fault c) = []

  goes_on : (all : List TypeItemTree) (n : ℕ) (r : Answer TypeLexeme TypeItemTree) → ((all : List TypeItemTree) (os : List TypeLexeme) → rest_of (items_at bytes env n all os) ≡ []) → rest_of (r >>= again all n) ≡ []
  goes_on all n (read x) h = h (all ++ x.tree ∷ []) x.rest
  goes_on all n (fault c) h = refl

  none_left : (n : ℕ) (all : List TypeItemTree) (os : List TypeLexeme) → rest_of (items_at bytes env n all os) ≡ []
  unfolding items_at
  none_left zero all os = refl
  none_left (suc n) all [] = refl
  none_left (suc n) all (o ∷ os) = goes_on all n (item_at bytes env (o ∷ os)) (none_left n)

  pub file_whole : (n : ℕ) (os : List TypeLexeme) (g : Got TypeLexeme (List TypeItemTree)) → items_at bytes env n [] os ≡ read g → g.rest ≡ []
  file_whole n os g e = sym (ap rest_of e) ∙ none_left n [] os
