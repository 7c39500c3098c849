-- What spells a region or a global is read.
use Rattle.std.proofs.Common.{◌≡◌, ℕ, ℤ, Bool, true, false, List, [], ◌∷◌, ◌++◌, refl, ap, ◌∙◌, append_assoc}
use Rattle.cx_cword.specs.declared.word.Punctuator.TheVariants as p
use Rattle.cx_tsyn.specs.Words.{WordTree}
use Rattle.cx_tsyn.specs.Types.{STypeTree}
use Rattle.cx_tsyn.specs.Items.{RegionItemTree, GlobalItemTree}
use Rattle.cx_tword.specs.declared.word.TypeWord.TheVariants as tw
use Rattle.cx_tword.specs.declared.lexeme.TypeLexeme.{TypeLexeme}
use Rattle.cx_tword.specs.Marks.{kind_is_mark, kind_is_word, is_mark, is_word}
use Rattle.cx_tword.proofs.Marks.{mark_so, word_so}
use Rattle.cx_reader.specs.Answers.{Got, Answer, ◌>>=◌, give, next_is, next_at}
use Rattle.cx_reader.specs.Parts.{AnyRest}
use Rattle.cx_reader.proofs.ListsThere.{next_there, maybe_there, absent_there, made_there}
use Rattle.cx_tlin.specs.Lins.{IsName, EndsName}
use Rattle.cx_tlin.specs.Reading.{name_at}
use Rattle.cx_tlin.proofs.There.{name_there}
use Rattle.cx_tcell.specs.Cells.{InParentheses}
use Rattle.cx_tcell.specs.Reading.{in_parentheses_at}
use Rattle.cx_tcell.proofs.There.{in_parentheses_there}
use Rattle.cx_ttype.specs.Reading.{closed_at}
use Rattle.cx_ttype.proofs.There.{stype_there, closed_there, mark_ends}
use Rattle.cx_tregion.specs.Regions.{IsShared, not_shared, is_shared, region_of, IsRegion, a_region, IsNumber, a_number, global_of, IsGlobal, a_global}
use Rattle.cx_tregion.specs.Reading.{shared_at, region_end, region_from, region_at, number_by, number_at, global_end, global_from, global_at}

number_there : {a : List TypeLexeme} {z : ℤ} → IsNumber a z → (rest : List TypeLexeme) → number_at (a ++ rest) ≡ give z rest
unfolding number_at
number_there (a_number o z e) rest = ap (number_by (o ∷ rest) rest) e

numbers_there : {a : List TypeLexeme} {xs : List ℤ} → InParentheses IsNumber a xs → (rest : List TypeLexeme) → next_is (is_mark p.OpenParen) rest ≡ false → in_parentheses_at number_at (a ++ rest) ≡ give xs rest
numbers_there s rest off = in_parentheses_there IsNumber number_at AnyRest (λ m a rest x s less ends. number_there s rest) (λ o w so. tt) (λ o w e. tt) s rest off

shared_there : {a : List TypeLexeme} {b : Bool} → IsShared a b → (rest : List TypeLexeme) → next_is (is_word tw.Shared) rest ≡ false → shared_at (a ++ rest) ≡ give b rest
unfolding shared_at
shared_there not_shared rest off = absent_there (is_word tw.Shared) false rest (λ o rest. give true rest) off
shared_there (is_shared o e) rest off = maybe_there (is_word tw.Shared) false o rest (λ o rest. give true rest) (word_so tw.Shared o e)

-- five pieces behind one another, with a lexeme before the second and before the fourth, and one at the end
five : (a v b c rest : List TypeLexeme) (o e s : TypeLexeme) → (a ++ (o ∷ v ++ (b ++ (e ∷ c ++ s ∷ [])))) ++ rest ≡ a ++ (o ∷ (v ++ (b ++ (e ∷ (c ++ (s ∷ rest))))))
five a v b c rest o e s =
    append_assoc a (o ∷ v ++ (b ++ (e ∷ c ++ s ∷ []))) rest
    ∙ ap (λ (w : List TypeLexeme). a ++ (o ∷ w)) (append_assoc v (b ++ (e ∷ c ++ s ∷ [])) rest
    ∙ ap (λ (w : List TypeLexeme). v ++ w) (append_assoc b (e ∷ c ++ s ∷ []) rest ∙ ap (λ (w : List TypeLexeme). b ++ (e ∷ w)) (append_assoc c (s ∷ []) rest)))

module _ (bytes : List ℕ) where
  params_there : {a : List TypeLexeme} {xs : List WordTree} → InParentheses (IsName bytes) a xs → (rest : List TypeLexeme) → next_is (is_mark p.OpenParen) rest ≡ false → in_parentheses_at (name_at bytes) (a ++ rest) ≡ give xs rest
  params_there s rest off = in_parentheses_there (IsName bytes) (name_at bytes) EndsName (λ m a rest x s less ends. name_there bytes s rest) (λ o w so. tt) (λ o w e. tt) s rest off

  pub region_there : {a : List TypeLexeme} {x : RegionItemTree} → IsRegion bytes a x → (rest : List TypeLexeme) → region_at bytes (a ++ rest) ≡ give x rest
  unfolding region_at
  region_there (a_region {a = a} {v = v} {b = b} {c = c} {shared = sh} {name = i} {params = ps} {body = y} o e s h f t u g k z) rest =
      let os = a ++ (o ∷ v ++ (b ++ (e ∷ c ++ s ∷ []))) in
      let x : Bool × WordTree × List WordTree × STypeTree = (sh, i, ps, y) in
      let go3 : Got TypeLexeme STypeTree → Answer TypeLexeme (Bool × WordTree × List WordTree × STypeTree) = λ t. closed_at p.Semicolon (sh, i, ps, t.tree) t.rest in
      let go2 : Got TypeLexeme (List WordTree) → Answer TypeLexeme (Bool × WordTree × List WordTree × STypeTree) = λ ps. next_at (is_mark p.Assign) ps.rest (λ e rest. region_end bytes sh i ps.tree rest) in
      let go1 : Got TypeLexeme WordTree → Answer TypeLexeme (Bool × WordTree × List WordTree × STypeTree) = λ v. in_parentheses_at (name_at bytes) v.rest >>= λ ps. next_at (is_mark p.Assign) ps.rest (λ e rest. region_end bytes sh v.tree ps.tree rest) in
      let go0 : Got TypeLexeme Bool → Answer TypeLexeme (Bool × WordTree × List WordTree × STypeTree) = λ x. next_at (is_word tw.Region) x.rest (λ o rest. region_from bytes x.tree rest) in
      let tail = e ∷ (c ++ (s ∷ rest)) in
      let parts : (shared_at (os ++ rest) >>= go0) ≡ give x rest =
      ap (λ (w : List TypeLexeme). shared_at w >>= go0) (five a v b c rest o e s)
      ∙ ap (λ (r : Answer TypeLexeme Bool). r >>= go0) (shared_there h (o ∷ (v ++ (b ++ tail))) (ap (kind_is_word tw.Shared) f))
      ∙ next_there (is_word tw.Region) o (v ++ (b ++ tail)) (λ o rest. region_from bytes sh rest) (word_so tw.Region o f)
      ∙ ap (λ (r : Answer TypeLexeme WordTree). r >>= go1) (name_there bytes t (b ++ tail))
      ∙ ap (λ (r : Answer TypeLexeme (List WordTree)). r >>= go2) (params_there u tail (ap (kind_is_mark p.OpenParen) g))
      ∙ next_there (is_mark p.Assign) e (c ++ (s ∷ rest)) (λ e rest. region_end bytes sh i ps rest) (mark_so p.Assign e g)
      ∙ ap (λ (r : Answer TypeLexeme STypeTree). r >>= go3) (stype_there bytes k (s ∷ rest) (mark_ends p.Semicolon s rest z refl))
      ∙ closed_there bytes p.Semicolon x s rest z in
      made_there region_of os rest x (shared_at (os ++ rest) >>= go0) parts

  pub global_there : {a : List TypeLexeme} {x : GlobalItemTree} → IsGlobal bytes a x → (rest : List TypeLexeme) → global_at bytes (a ++ rest) ≡ give x rest
  unfolding global_at
  global_there (a_global {v = v} {c = c} {d = d} {name = i} {region = j} {args = xs} o e s f t g u h z) rest =
      let os = o ∷ v ++ (e ∷ c ++ (d ++ s ∷ [])) in
      let x : WordTree × WordTree × List ℤ = (i, j, xs) in
      let go3 : Got TypeLexeme (List ℤ) → Answer TypeLexeme (WordTree × WordTree × List ℤ) = λ xs. closed_at p.Semicolon (i, j, xs.tree) xs.rest in
      let go2 : Got TypeLexeme WordTree → Answer TypeLexeme (WordTree × WordTree × List ℤ) = λ c. in_parentheses_at number_at c.rest >>= λ xs. closed_at p.Semicolon (i, c.tree, xs.tree) xs.rest in
      let go1 : Got TypeLexeme WordTree → Answer TypeLexeme (WordTree × WordTree × List ℤ) = λ v. next_at (is_mark p.Assign) v.rest (λ e rest. global_end bytes v.tree rest) in
      let all : (v ++ (e ∷ c ++ (d ++ s ∷ []))) ++ rest ≡ v ++ (e ∷ (c ++ (d ++ (s ∷ rest)))) =
      append_assoc v (e ∷ c ++ (d ++ s ∷ [])) rest ∙ ap (λ (w : List TypeLexeme). v ++ (e ∷ w)) (append_assoc c (d ++ s ∷ []) rest ∙ ap (λ (w : List TypeLexeme). c ++ w) (append_assoc d (s ∷ []) rest)) in
      let parts : next_at (is_word tw.Global) (os ++ rest) (λ o rest. global_from bytes rest) ≡ give x rest =
      next_there (is_word tw.Global) o ((v ++ (e ∷ c ++ (d ++ s ∷ []))) ++ rest) (λ o rest. global_from bytes rest) (word_so tw.Global o f)
      ∙ ap (λ (w : List TypeLexeme). name_at bytes w >>= go1) all
      ∙ ap (λ (r : Answer TypeLexeme WordTree). r >>= go1) (name_there bytes t (e ∷ (c ++ (d ++ (s ∷ rest)))))
      ∙ next_there (is_mark p.Assign) e (c ++ (d ++ (s ∷ rest))) (λ e rest. global_end bytes i rest) (mark_so p.Assign e g)
      ∙ ap (λ (r : Answer TypeLexeme WordTree). r >>= go2) (name_there bytes u (d ++ (s ∷ rest)))
      ∙ ap (λ (r : Answer TypeLexeme (List ℤ)). r >>= go3) (numbers_there h (s ∷ rest) (ap (kind_is_mark p.OpenParen) z))
      ∙ closed_there bytes p.Semicolon x s rest z in
      made_there global_of os rest x (next_at (is_word tw.Global) (os ++ rest) (λ o rest. global_from bytes rest)) parts
