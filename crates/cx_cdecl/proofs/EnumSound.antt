-- What is read as enumerators is a list of them.
use Rattle.std.proofs.Common.{◌≡◌, ℕ, zero, suc, Bool, true, false, ◌&&◌, List, [], ◌∷◌, ◌++◌, Option, Some, None, refl, sym, ap, ◌∙◌, subst, append_assoc, arith, inl, inr, ◌⊎◌}
use Rattle.std.proofs.lemmas.Bool.Decides.{nat_tests}
use Rattle.std.specs.Prelude.{ℤ, pos, ◌+ℤ◌, not, is_some}
use Rattle.std.proofs.lemmas.Option.{same_Some}
use Rattle.cx_base.specs.Number.{InRange, half_of}
use Rattle.cx_base.proofs.General.{both_true}
use Rattle.cx_ctree.specs.Decls.{DeclTree}
use Rattle.cx_cword.specs.declared.word.Punctuator.TheVariants as p
use Rattle.cx_cword.specs.declared.lexeme.Lexeme.{Lexeme}
use Rattle.cx_cword.specs.Reading.{Is, IsName, ◌>>=◌}
use Rattle.cx_cname.specs.Known.{Known, meaning, with_constant}
use Rattle.cx_cname.specs.Meanings.{is_new}
use Rattle.cx_cconst.specs.Constants.{constant_in}
use Rattle.cx_cexpr.specs.Reading.{cond_at}
use Rattle.cx_cexpr.proofs.Steps.{bind_some, named_some}
use Rattle.cx_cexpr.proofs.Sound.{cond_sound}
use Rattle.cx_cword.specs.declared.mark.Mark.TheVariants as m
use Rattle.cx_cdecl.specs.Declarations.{IsEnumerator, enumerator_next, enumerator_equal, AreEnumerators, first_enumerator, also_enumerator, IsEnumList, enum_list, enum_list_comma}
use Rattle.cx_cdecl.specs.Reading.{Got, After, wanted, choose, in_int, value_by, value_at, enumerator_by, enumerator_at, enumerators_by, enumerators_at, enumerators_in}
use Rattle.cx_cdecl.proofs.Steps.{if_some, Marked, wanted_some, choose_some}

int_is : (v : ℤ) → in_int v ≡ true → InRange 4 true v
unfolding half_of
int_is v e = (grind (arith, nat_tests, e), grind (arith, nat_tests, e))

pub new_is : {A : Type 0} (o : Option A) → not (is_some o) ≡ true → o ≡ None
new_is None e = refl
new_is (Some x) e = absurd cc

-- ---- one enumerator

-- what stands after the name
record Valued (env : Known) (next : ℤ) (o : Lexeme) (n : ℕ) (os : List Lexeme) (g : Got ℤ) : Type 0 where
  front : List Lexeme
  parts : os ≡ front ++ g.rest
  so : IsEnumerator env next (o ∷ front) n g.tree

value_some : (rest : List Lexeme) (o : Option ℤ) (g : Got ℤ) → value_by rest o ≡ Some g → (v : ℤ) × (o ≡ Some v) × (◌≡◌ {A = Got ℤ} (record { tree = v; rest = rest }) g)
value_some rest None g e = absurd cc
value_some rest (Some v) g e = (v, refl, same_Some _ g e)

value_sound : (turns : ℕ) (env : Known) (next : ℤ) (o : Lexeme) (n : ℕ) (os : List Lexeme) (g : Got ℤ) → IsName n o → value_at turns env next os ≡ Some g → Valued env next o n os g
unfolding value_at
value_sound turns env next o n os g called e =
    elim (choose_some m.Assign os (Some (record { tree = next; rest = os })) (λ rest. cond_at env turns 400 rest >>= λ x. value_by x.rest (constant_in env x.tree)) g e) [
      | inl c ↦
          let i = bind_some (cond_at env turns 400 c.0) (λ x. value_by x.rest (constant_in env x.tree)) g c.2 in
          let f = cond_sound env turns 400 c.0 i.0 i.1 in
          let v = value_some i.0.rest (constant_in env i.0.tree) g i.2 in
          subst (Valued env next o n os) v.2 (record {
            front = c.1.at ∷ f.front;
            parts = c.1.parts ∙ ap (λ (u : List Lexeme). c.1.at ∷ u) f.parts;
            so = enumerator_equal o c.1.at n called c.1.is f.spelled_so f.low v.1;
          })
      | inr done ↦ subst (Valued env next o n os) (same_Some (record { tree = next; rest = os }) g done) (record { front = []; parts = refl; so = enumerator_next o n called })
    ]

-- an enumerator, whose name is new
record EnumeratorFront (earlier : List DeclTree) (env : Known) (next : ℤ) (os : List Lexeme) (g : After ℤ) : Type 0 where
  front : List Lexeme
  name : ℕ
  parts : os ≡ front ++ g.rest
  so : IsEnumerator env next front name g.tree
  range : InRange 4 true g.tree
  new : meaning env earlier name ≡ None
  after : with_constant env name g.tree ≡ g.known

enumerator_some : (earlier : List DeclTree) (env : Known) (next : ℤ) (o : Lexeme) (os : List Lexeme) (n : ℕ) (v : Got ℤ) (g : After ℤ) → Valued env next o n os v → enumerator_by earlier env n v ≡ Some g → EnumeratorFront earlier env next (o ∷ os) g
enumerator_some earlier env next o os n v g f e =
    let made : After ℤ = record { tree = v.tree; known = with_constant env n v.tree; rest = v.rest } in
    let t = if_some (in_int v.tree && is_new env earlier n) (Some made) g e in
    let both = both_true (in_int v.tree) (is_new env earlier n) t.0 in
    subst (EnumeratorFront earlier env next (o ∷ os)) (same_Some made g t.1) (record {
      front = o ∷ f.front;
      name = n;
      parts = ap (λ (u : List Lexeme). o ∷ u) f.parts;
      so = f.so;
      range = int_is v.tree both.0;
      new = new_is (meaning env earlier n) both.1;
      after = refl;
    })

enumerator_sound : (turns : ℕ) (earlier : List DeclTree) (env : Known) (next : ℤ) (os : List Lexeme) (g : After ℤ) → enumerator_at turns earlier env next os ≡ Some g → EnumeratorFront earlier env next os g
unfolding enumerator_at
enumerator_sound turns earlier env next os g e =
    let h = named_some os (λ o name rest. value_at turns env next rest >>= enumerator_by earlier env name) g e in
    let i = bind_some (value_at turns env next h.2) (enumerator_by earlier env h.1) g h.5 in
    subst (λ (u : List Lexeme). EnumeratorFront earlier env next u g) (sym h.3) (enumerator_some earlier env next h.0 h.2 h.1 i.0 g (value_sound turns env next h.0 h.1 h.2 i.0 h.4 i.1) i.2)

-- ---- all of them

-- what stands before an enumerator, with its value where it has none of its own
pub data Before (earlier : List DeclTree) (env : Known) : List Lexeme → ℤ → Known → Type 0 where
  none_before : Before earlier env [] (pos 0) env
  comma_before : {a : List Lexeme} {v : ℤ} {known : Known} (o : Lexeme) → AreEnumerators earlier env a v known → Is p.Comma o → Before earlier env (a ++ o ∷ []) (v +ℤ pos 1) known

one_more : (earlier : List DeclTree) (env known : Known) (before : List Lexeme) (next : ℤ) (f : List Lexeme) (n : ℕ) (w : ℤ) → Before earlier env before next known → IsEnumerator known next f n w → InRange 4 true w → meaning known earlier n ≡ None
    → AreEnumerators earlier env (before ++ f) w (with_constant known n w)
one_more earlier env known before next f n w none_before h r i = first_enumerator h r i
one_more earlier env known before next f n w (comma_before {a = a} o all is) h r i = subst (λ (v : List Lexeme). AreEnumerators earlier env v w (with_constant known n w)) (sym (append_assoc a (o ∷ []) f)) (also_enumerator o all is h r i)

abbrev pub MayComma : List Lexeme → Type 0
MayComma tail = (tail ≡ []) ⊎ ((o : Lexeme) × (tail ≡ o ∷ []) × Is p.Comma o)

pub record Enumerators (earlier : List DeclTree) (env : Known) (whole : List Lexeme) (x : After (Unit {0})) : Type 0 where
  pub body : List Lexeme
  pub tail : List Lexeme
  pub last : ℤ
  pub parts : whole ≡ body ++ (tail ++ x.rest)
  pub so : AreEnumerators earlier env body last x.known
  pub comma : MayComma tail

abbrev done : Known → List Lexeme → After (Unit {0})
done env rest = record { tree = tt; known = env; rest = rest }

module _ (turns : ℕ) (earlier : List DeclTree) (env : Known) (whole : List Lexeme) where
  abbrev Goes : (Known → ℤ → List Lexeme → Option (After (Unit {0}))) → Type 0
  Goes again = (before : List Lexeme) (next : ℤ) (known : Known) (os : List Lexeme) (x : After (Unit {0})) → Before earlier env before next known → whole ≡ before ++ os → again known next os ≡ Some x → Enumerators earlier env whole x

  after_comma : (again : Known → ℤ → List Lexeme → Option (After (Unit {0}))) → Goes again → (a : List Lexeme) (v : ℤ) (known : Known) (o : Lexeme) (rest : List Lexeme) (x : After (Unit {0}))
      → AreEnumerators earlier env a v known → Is p.Comma o → whole ≡ a ++ o ∷ rest → choose m.CloseBrace rest (again known (v +ℤ pos 1) rest) (λ after. Some (done known rest)) ≡ Some x → Enumerators earlier env whole x
  after_comma again goes a v known o rest x all is parts e =
      elim (choose_some m.CloseBrace rest (again known (v +ℤ pos 1) rest) (λ after. Some (done known rest)) x e) [
        | inl c ↦ subst (Enumerators earlier env whole) (same_Some (done known rest) x c.2) (record { body = a; tail = o ∷ []; last = v; parts = parts; so = all; comma = inr (o, refl, is) })
        | inr more ↦ goes (a ++ o ∷ []) (v +ℤ pos 1) known rest x (comma_before o all is) (parts ∙ sym (append_assoc a (o ∷ []) rest)) more
      ]

  step : (again : Known → ℤ → List Lexeme → Option (After (Unit {0}))) → Goes again → (a : List Lexeme) (y : After ℤ) (x : After (Unit {0}))
      → AreEnumerators earlier env a y.tree y.known → whole ≡ a ++ y.rest → enumerators_by again y ≡ Some x → Enumerators earlier env whole x
  step again goes a y x all parts e =
      elim (choose_some m.Comma y.rest (Some (done y.known y.rest)) (λ rest. choose m.CloseBrace rest (again y.known (y.tree +ℤ pos 1) rest) (λ after. Some (done y.known rest))) x e) [
        | inl c ↦ after_comma again goes a y.tree y.known c.1.at c.0 x all c.1.is (parts ∙ ap (λ (u : List Lexeme). a ++ u) c.1.parts) c.2
        | inr stop ↦ subst (Enumerators earlier env whole) (same_Some (done y.known y.rest) x stop) (record { body = a; tail = []; last = y.tree; parts = parts; so = all; comma = inl refl })
      ]

  pub enumerators_sound : (n : ℕ) → Goes (enumerators_at turns earlier n)
  unfolding enumerators_at
  enumerators_sound zero before next known os x b parts e = absurd cc
  enumerators_sound (suc n) before next known os x b parts e =
      let i = bind_some (enumerator_at turns earlier known next os) (enumerators_by (enumerators_at turns earlier n)) x e in
      let f = enumerator_sound turns earlier known next os i.0 i.1 in
      step (enumerators_at turns earlier n) (enumerators_sound n) (before ++ f.front) i.0 x
      (subst (λ (v : Known). AreEnumerators earlier env (before ++ f.front) i.0.tree v) f.after (one_more earlier env known before next f.front f.name i.0.tree b f.so f.range f.new))
      (parts ∙ ap (λ (u : List Lexeme). before ++ u) f.parts ∙ sym (append_assoc before f.front i.0.rest))
      i.2

-- ---- in braces

-- the brace before them stands already
pub record EnumList (earlier : List DeclTree) (env : Known) (o : Lexeme) (os : List Lexeme) (x : After (Unit {0})) : Type 0 where
  pub front : List Lexeme
  pub parts : os ≡ front ++ x.rest
  pub so : IsEnumList earlier env (o ∷ front) x.known

close_list : (earlier : List DeclTree) (env : Known) (o : Lexeme) (os after : List Lexeme) (x : After (Unit {0})) (c : Marked m.CloseBrace x.rest after) → Is p.OpenBrace o → (f : Enumerators earlier env os x) → (tail : List Lexeme) → f.tail ≡ tail → MayComma tail
    → EnumList earlier env o os (done x.known after)
close_list earlier env o os after x c opens f tail is (inl none) = record {
  front = f.body ++ c.at ∷ [];
  parts = f.parts ∙ ap (λ (t : List Lexeme). f.body ++ (t ++ x.rest)) (is ∙ none) ∙ ap (λ (t : List Lexeme). f.body ++ t) c.parts ∙ sym (append_assoc f.body (c.at ∷ []) after);
  so = enum_list o c.at opens f.so c.is;
}
close_list earlier env o os after x c opens f tail is (inr comma) = record {
  front = f.body ++ comma.0 ∷ c.at ∷ [];
  parts = f.parts ∙ ap (λ (t : List Lexeme). f.body ++ (t ++ x.rest)) (is ∙ comma.1) ∙ ap (λ (t : List Lexeme). f.body ++ comma.0 ∷ t) c.parts ∙ sym (append_assoc f.body (comma.0 ∷ c.at ∷ []) after);
  so = enum_list_comma o comma.0 c.at opens f.so comma.2 c.is;
}

pub enum_list_sound : (turns : ℕ) (earlier : List DeclTree) (env : Known) (o : Lexeme) (os : List Lexeme) (x : After (Unit {0})) → Is p.OpenBrace o → enumerators_in turns earlier env os ≡ Some x → EnumList earlier env o os x
enum_list_sound turns earlier env o os x opens e =
    let i = bind_some (enumerators_at turns earlier turns env (pos 0) os) (λ x. wanted m.CloseBrace x.rest (λ after. Some (done x.known after))) x e in
    let f = enumerators_sound turns earlier env os turns [] (pos 0) env os i.0 none_before refl i.1 in
    let c = wanted_some m.CloseBrace i.0.rest (λ after. Some (done i.0.known after)) x i.2 in
    subst (EnumList earlier env o os) (same_Some (done i.0.known c.0) x c.2) (close_list earlier env o os c.0 i.0 c.1 opens f f.tail refl f.comma)
