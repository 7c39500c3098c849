-- What is read as the words of a type, with members and enumerators in braces, is spelled so.
use Rattle.std.proofs.Common.{◌≡◌, ℕ, zero, suc, Bool, true, false, ◌&&◌, ◌||◌, cond, List, [], ◌∷◌, ◌++◌, length, Option, Some, None, refl, sym, ap, ◌∙◌, subst, append_assoc, append-nil, inl, inr}
use Rattle.std.specs.Prelude.{not}
use Rattle.std.proofs.lemmas.Option.{same_Some}
use Rattle.cx_base.proofs.General.{not_true, both_true}
use Rattle.cx_ctree.specs.Types.{TypeTree, tag}
use Rattle.cx_ctree.specs.Decls.{MemberTree, DeclTree}
use Rattle.cx_cword.specs.declared.word.Punctuator.TheVariants as p
use Rattle.cx_cword.specs.declared.lexeme.Lexeme.{Lexeme}
use Rattle.cx_cword.specs.Reading.{Is, IsWord, IsName, ◌>>=◌}
use Rattle.cx_cname.specs.Known.{Known, with_members, is_complete}
use Rattle.cx_cname.specs.Meanings.{may_have, has_members}
use Rattle.cx_cexpr.specs.Expressions.{tag_word}
use Rattle.cx_cexpr.proofs.Steps.{bind_some, at_first, pick}
use Rattle.cx_cword.specs.declared.mark.Mark.TheVariants as m
use Rattle.cx_cdecl.specs.Declarations.{Beside, nothing_said, IsObject, tag_members, members_alone, enum_named, enum_alone, IsMemberList, member_list, AreMembers, first_members, also_members, IsMemberLine, member_line, AreMemberNames, first_name, also_name}
use Rattle.cx_cdecl.specs.Reading.{Got, After, Named, Specifier, Specs, Placed, Listing, wanted, choose, if_true, beside_at, place_at, plain_at, specs_of, object_at, member_names_at, are_distinct, named_enum, enum_listed, members_listed, listed_by, enumerators_in, specifier_by, listing_at, specs_after, line_names, members_by, specs_at, specifier_at, members_at, line_at}
use Rattle.cx_cdecl.proofs.Steps.{if_some, wanted_some, choose_some}
use Rattle.cx_cdecl.proofs.BesideSound.{beside_sound}
use Rattle.cx_cdecl.proofs.DeclaratorSound.{object_sound}
use Rattle.cx_cdecl.proofs.EnumSound.{enum_list_sound}
use Rattle.cx_cdecl.proofs.TagSound.{Declared, placed_so, declared_so, distinct_is, Begins, Listings, listing_sound}
use Rattle.cx_cdecl.proofs.TagSound as begins
use Rattle.cx_cdecl.proofs.SpecsSound.{SpecifierFront, SpecsFront, plain_sound, around}
use Rattle.cx_cword.specs.Marks.{fits}

-- ---- the declarators of a line of members

pub data NamesBefore (env : Known) (t : TypeTree) : List Lexeme → List MemberTree → Type 0 where
  no_name : NamesBefore env t [] []
  comma_name : {a : List Lexeme} {ms : List MemberTree} (o : Lexeme) → AreMemberNames env t a ms → Is p.Comma o → NamesBefore env t (a ++ o ∷ []) ms

abbrev member_of : Got Named → MemberTree
member_of x = record { name = x.tree.name; ctype = x.tree.ctype }

name_more : (env : Known) (t : TypeTree) (before : List Lexeme) (ks : List MemberTree) (f : List Lexeme) (n : ℕ) (o : Lexeme) (w : TypeTree) → NamesBefore env t before ks → IsObject env t f n o w → is_complete env w ≡ true
    → AreMemberNames env t (before ++ f) (ks ++ record { name = n; ctype = w } ∷ [])
name_more env t before ks f n o w no_name so done = first_name so done
name_more env t before ks f n o w (comma_name {a = a} {ms = ms} c all is) so done = subst (λ (v : List Lexeme). AreMemberNames env t v (ms ++ record { name = n; ctype = w } ∷ [])) (sym (append_assoc a (c ∷ []) f)) (also_name c all is so done)

pub record NamesFront (env : Known) (t : TypeTree) (whole : List Lexeme) (ms : List MemberTree) (g : Got (List MemberTree)) : Type 0 where
  pub body : List Lexeme
  pub new : List MemberTree
  pub parts : whole ≡ body ++ g.rest
  pub tree : ms ++ new ≡ g.tree
  pub so : AreMemberNames env t body new

module _ (turns : ℕ) (env : Known) (t : TypeTree) (whole : List Lexeme) (ms : List MemberTree) where
  abbrev GoesNames : (List MemberTree → List Lexeme → Option (Got (List MemberTree))) → Type 0
  GoesNames again = (before : List Lexeme) (ks : List MemberTree) (os : List Lexeme) (g : Got (List MemberTree)) → NamesBefore env t before ks → whole ≡ before ++ os → again (ms ++ ks) os ≡ Some g → NamesFront env t whole ms g

  name_step : (again : List MemberTree → List Lexeme → Option (Got (List MemberTree))) → GoesNames again → (body : List Lexeme) (new : List MemberTree) (rest : List Lexeme) (all : List MemberTree) (g : Got (List MemberTree))
      → AreMemberNames env t body new → whole ≡ body ++ rest → all ≡ ms ++ new → choose m.Comma rest (Some (record { tree = all; rest = rest })) (λ after. again all after) ≡ Some g → NamesFront env t whole ms g
  name_step again goes body new rest all g so parts same e =
      elim (choose_some m.Comma rest (Some (record { tree = all; rest = rest })) (λ after. again all after) g e) [
        | inl c ↦ goes (body ++ c.1.at ∷ []) new c.0 g (comma_name c.1.at so c.1.is) (parts ∙ ap (λ (v : List Lexeme). body ++ v) c.1.parts ∙ sym (append_assoc body (c.1.at ∷ []) c.0)) (ap (λ (v : List MemberTree). again v c.0) (sym same) ∙ c.2)
        | inr stop ↦ subst (NamesFront env t whole ms) (same_Some (record { tree = all; rest = rest }) g stop) (record { body = body; new = new; parts = parts; tree = sym same; so = so })
      ]

  names_sound : (n : ℕ) → GoesNames (member_names_at turns env t n)
  unfolding member_names_at
  names_sound zero before ks os g b parts e = absurd cc
  names_sound (suc n) before ks os g b parts e =
      let i = bind_some (object_at turns env t os) (λ x. if_true (is_complete env x.tree.ctype) (choose m.Comma x.rest (Some (record { tree = (ms ++ ks) ++ member_of x ∷ []; rest = x.rest })) (λ rest. member_names_at turns env t n ((ms ++ ks) ++ member_of x ∷ []) rest))) g e in
      let f = object_sound turns env t os i.0 i.1 in
      let c = if_some (is_complete env i.0.tree.ctype) (choose m.Comma i.0.rest (Some (record { tree = (ms ++ ks) ++ member_of i.0 ∷ []; rest = i.0.rest })) (λ rest. member_names_at turns env t n ((ms ++ ks) ++ member_of i.0 ∷ []) rest)) g i.2 in
      name_step (member_names_at turns env t n) (names_sound n) (before ++ f.front) (ks ++ member_of i.0 ∷ []) i.0.rest ((ms ++ ks) ++ member_of i.0 ∷ []) g
      (name_more env t before ks f.front i.0.tree.name i.0.tree.lexeme i.0.tree.ctype b f.so c.0)
      (parts ∙ ap (λ (v : List Lexeme). before ++ v) f.parts ∙ sym (append_assoc before f.front i.0.rest))
      (append_assoc ms ks (member_of i.0 ∷ [])) c.1

-- ---- lines of members

pub record LineFront (earlier : List DeclTree) (env : Known) (ms : List MemberTree) (os : List Lexeme) (x : After (List MemberTree)) : Type 0 where
  pub front : List Lexeme
  pub new : List MemberTree
  pub parts : os ≡ front ++ x.rest
  pub tree : ms ++ new ≡ x.tree
  pub so : IsMemberLine earlier env front new x.known

nor_parts : (a b : Bool) → not (a || b) ≡ true → (a ≡ false) × (b ≡ false)
nor_parts true b e = absurd cc
nor_parts false b e = (refl, not_true b e)

line_step : (turns : ℕ) (earlier : List DeclTree) (env : Known) (ms : List MemberTree) (os : List Lexeme) (s : After Specs) (x : After (List MemberTree)) → SpecsFront earlier env os s → line_names turns ms s ≡ Some x → LineFront earlier env ms os x
line_step turns earlier env ms os s x f e =
    let go : Got (List MemberTree) → Option (After (List MemberTree)) = λ g. wanted m.Semicolon g.rest (λ after. Some (record { tree = g.tree; known = s.known; rest = after })) in
    let t = if_some (not (s.tree.said.stored || s.tree.said.attributed)) (member_names_at turns s.known s.tree.ctype turns ms s.rest >>= go) x e in
    let bare = nor_parts s.tree.said.stored s.tree.said.attributed t.0 in
    let i = bind_some (member_names_at turns s.known s.tree.ctype turns ms s.rest) go x t.1 in
    let n = names_sound turns s.known s.tree.ctype s.rest ms turns [] [] s.rest i.0 no_name refl (ap (λ (v : List MemberTree). member_names_at turns s.known s.tree.ctype turns v s.rest) (append-nil ms) ∙ i.1) in
    let c = wanted_some m.Semicolon i.0.rest (λ after. Some (record { tree = i.0.tree; known = s.known; rest = after })) x i.2 in
    subst (LineFront earlier env ms os) (same_Some (record { tree = i.0.tree; known = s.known; rest = c.0 }) x c.2) (record {
      front = (f.front ++ n.body) ++ c.1.at ∷ [];
      new = n.new;
      parts = f.parts ∙ ap (λ (v : List Lexeme). f.front ++ v) (n.parts ∙ ap (λ (v : List Lexeme). n.body ++ v) c.1.parts) ∙ sym (append_assoc f.front n.body (c.1.at ∷ c.0)) ∙ sym (append_assoc (f.front ++ n.body) (c.1.at ∷ []) c.0);
      tree = n.tree;
      so = member_line c.1.at f.so bare.0 bare.1 n.so c.1.is;
    })

pub data MembersBefore (earlier : List DeclTree) (env : Known) : List Lexeme → List MemberTree → Known → Type 0 where
  no_line : MembersBefore earlier env [] [] env
  some_lines : {a : List Lexeme} {ms : List MemberTree} {known : Known} → AreMembers earlier env a ms known → MembersBefore earlier env a ms known

line_more : (earlier : List DeclTree) (env known later : Known) (before : List Lexeme) (ms : List MemberTree) (f : List Lexeme) (new : List MemberTree) → MembersBefore earlier env before ms known → IsMemberLine earlier known f new later → AreMembers earlier env (before ++ f) (ms ++ new) later
line_more earlier env known later before ms f new no_line h = first_members h
line_more earlier env known later before ms f new (some_lines all) h = also_members all h

pub record MembersFront (earlier : List DeclTree) (env : Known) (whole : List Lexeme) (x : After (List MemberTree)) : Type 0 where
  pub body : List Lexeme
  pub parts : whole ≡ body ++ x.rest
  pub so : AreMembers earlier env body x.tree x.known

abbrev GoesMembers : List DeclTree → (Known → List MemberTree → List Lexeme → Option (After (List MemberTree))) → Type 0
GoesMembers earlier again = (env : Known) (whole before : List Lexeme) (ms : List MemberTree) (known : Known) (os : List Lexeme) (x : After (List MemberTree)) → MembersBefore earlier env before ms known → whole ≡ before ++ os → again known ms os ≡ Some x → MembersFront earlier env whole x

after_line : (earlier : List DeclTree) (again : Known → List MemberTree → List Lexeme → Option (After (List MemberTree))) → GoesMembers earlier again → (env : Known) (whole body : List Lexeme) (y x : After (List MemberTree))
    → AreMembers earlier env body y.tree y.known → whole ≡ body ++ y.rest → members_by again y ≡ Some x → MembersFront earlier env whole x
after_line earlier again goes env whole body y x so parts e =
    let a = at_first y.rest (λ o rest. cond (fits m.CloseBrace o.kind) (Some y) (again y.known y.tree y.rest)) x e in
    elim (pick (fits m.CloseBrace a.0.kind) (Some y) (again y.known y.tree y.rest) x a.3) [
      | inl stop ↦ subst (MembersFront earlier env whole) (same_Some y x stop.1) (record { body = body; parts = parts; so = so })
      | inr more ↦ goes env whole body y.tree y.known y.rest x (some_lines so) parts more.1
    ]

members_step : (earlier : List DeclTree) (again : Known → List MemberTree → List Lexeme → Option (After (List MemberTree))) → GoesMembers earlier again → (env : Known) (whole before : List Lexeme) (ms : List MemberTree) (known : Known) (os : List Lexeme) (y x : After (List MemberTree))
    → MembersBefore earlier env before ms known → whole ≡ before ++ os → LineFront earlier known ms os y → members_by again y ≡ Some x → MembersFront earlier env whole x
members_step earlier again goes env whole before ms known os y x b parts l e =
    after_line earlier again goes env whole (before ++ l.front) y x
    (subst (λ (v : List MemberTree). AreMembers earlier env (before ++ l.front) v y.known) l.tree (line_more earlier env known y.known before ms l.front l.new b l.so))
    (parts ∙ ap (λ (v : List Lexeme). before ++ v) l.parts ∙ sym (append_assoc before l.front y.rest)) e

-- ---- lists in braces

-- what is read after the brace that opens, where the members begin among these names
record Membered (earlier : List DeclTree) (env : Known) (b : Lexeme) (os : List Lexeme) (at : ℕ) (union : Bool) (name : Option ℕ) (g : After Specifier) : Type 0 where
  front : List Lexeme
  ms : List MemberTree
  known : Known
  parts : os ≡ front ++ g.rest
  so : IsMemberList earlier env (b ∷ front) ms known
  free : has_members known at ≡ false
  tree : g.tree ≡ record { ctype = tag at; listed = true }
  after : g.known ≡ with_members known at name union ms

membered : (earlier : List DeclTree) (env : Known) (b : Lexeme) (os : List Lexeme) (at : ℕ) (union : Bool) (name : Option ℕ) (x : After (List MemberTree)) (g : After Specifier) → Is p.OpenBrace b → MembersFront earlier env os x → members_listed union name at x ≡ Some g
    → Membered earlier env b os at union name g
membered earlier env b os at union name x g opens f e =
    let made : List Lexeme → After Specifier = λ after. record { tree = record { ctype = tag at; listed = true }; known = with_members x.known at name union x.tree; rest = after } in
    let c = wanted_some m.CloseBrace x.rest (λ after. if_true (are_distinct x.tree && may_have x.known at x.tree) (Some (made after))) g e in
    let t = if_some (are_distinct x.tree && may_have x.known at x.tree) (Some (made c.0)) g c.2 in
    let both = both_true (are_distinct x.tree) (may_have x.known at x.tree) t.0 in
    let have = both_true (not (has_members x.known at)) _ both.1 in
    let same = same_Some (made c.0) g t.1 in
    record {
      front = f.body ++ c.1.at ∷ [];
      ms = x.tree;
      known = x.known;
      parts = f.parts ∙ ap (λ (v : List Lexeme). f.body ++ v) c.1.parts ∙ sym (append_assoc f.body (c.1.at ∷ []) c.0) ∙ ap (λ (v : After Specifier). (f.body ++ c.1.at ∷ []) ++ v.rest) same;
      so = member_list b c.1.at opens f.so (distinct_is x.tree both.0) c.1.is;
      free = not_true (has_members x.known at) have.0;
      tree = ap (λ (v : After Specifier). v.tree) (sym same);
      after = ap (λ (v : After Specifier). v.known) (sym same);
    }

abbrev made_of : Known → TypeTree → List Lexeme → After Specifier
made_of known t rest = record { tree = record { ctype = t; listed = true }; known = known; rest = rest }

made_is : (g : After Specifier) (known : Known) (t : TypeTree) → g.tree ≡ record { ctype = t; listed = true } → g.known ≡ known → made_of known t g.rest ≡ g
made_is g known t e f = ap (λ (v : Specifier). record { tree = v; known = known; rest = g.rest }) (sym e) ∙ ap (λ (v : Known). record { tree = g.tree; known = v; rest = g.rest }) (sym f)

module _ (turns : ℕ) (earlier : List DeclTree) (env : Known) (again : Known → List MemberTree → List Lexeme → Option (After (List MemberTree))) (goes : GoesMembers earlier again) where
  abbrev Listed : Listing → List Lexeme → After Specifier → Type 0
  Listed x os g = listed_by again (enumerators_in turns earlier) env x.name os x.union_ ≡ Some g

  read_members : (b : Lexeme) (os : List Lexeme) (name : Option ℕ) (union : Bool) (g : After Specifier) → Is p.OpenBrace b → listed_by again (enumerators_in turns earlier) env name os (Some union) ≡ Some g
      → (place : Placed) × (place_at env union name ≡ Some place) × Membered earlier place.known b os place.place union name g
  read_members b os name union g opens e =
      let i = bind_some (place_at env union name) (λ place. again place.known [] os >>= members_listed union name place.place) g e in
      let j = bind_some (again i.0.known [] os) (members_listed union name i.0.place) g i.2 in
      (i.0, i.1, membered earlier i.0.known b os i.0.place union name j.0 g opens (goes i.0.known os [] [] i.0.known os j.0 no_line refl j.1) j.2)

  abbrev Front : List Lexeme → List Lexeme → After Specifier → Type 0
  Front front os g = SpecifierFront earlier env (front ++ os) g

  alone_front : (o b : Lexeme) (union : Bool) (os : List Lexeme) (g : After Specifier) → IsWord (tag_word union) o → Is p.OpenBrace b → Listed (record { union_ = Some union; name = None }) os g → Front (o ∷ b ∷ []) os g
  alone_front o b union os g is opens e =
      let r = read_members b os None union g opens e in
      let place : Rattle.cx_cdecl.specs.Reading.new_tag env union None ≡ r.0 = same_Some _ r.0 r.1 in
      let h = subst (λ (v : Placed). Membered earlier v.known b os v.place union None g) (sym place) r.2 in
      subst (SpecifierFront earlier env (o ∷ b ∷ os)) (made_is g (with_members h.known (length env.tags) None union h.ms) (tag (length env.tags)) h.tree h.after)
      (record { front = o ∷ b ∷ h.front; parts = ap (λ (v : List Lexeme). o ∷ b ∷ v) h.parts; so = members_alone o union is h.so })

  named_front : (o w b : Lexeme) (n : ℕ) (union : Bool) (os : List Lexeme) (g : After Specifier) → IsWord (tag_word union) o → IsName n w → Is p.OpenBrace b → Listed (record { union_ = Some union; name = Some n }) os g → Front (o ∷ w ∷ b ∷ []) os g
  named_front o w b n union os g is called opens e =
      let r = read_members b os (Some n) union g opens e in
      let d = declared_so env union n r.0 (placed_so env union n r.0 r.1) in
      let h = subst (λ (v : Known). Membered earlier v b os r.0.place union (Some n) g) d.known r.2 in
      subst (SpecifierFront earlier env (o ∷ w ∷ b ∷ os)) (made_is g (with_members h.known r.0.place (Some n) union h.ms) (tag r.0.place) h.tree h.after)
      (record { front = o ∷ w ∷ b ∷ h.front; parts = ap (λ (v : List Lexeme). o ∷ w ∷ b ∷ v) h.parts; so = tag_members o w n r.0.place union is called d.place d.kind h.so h.free })

  listed_front : (front os : List Lexeme) (x : Listing) (g : After Specifier) → Begins front x → Listed x os g → Front front os g
  listed_front front os x g (begins.record_alone o b union is opens) e = alone_front o b union os g is opens e
  listed_front front os x g (begins.record_named o w b n union is called opens) e = named_front o w b n union os g is called opens e
  listed_front front os x g (begins.enum_alone o b is opens) e =
      let i = bind_some (enumerators_in turns earlier env os) (λ y. Some (enum_listed None y)) g e in
      let f = enum_list_sound turns earlier env b os i.0 opens i.1 in
      subst (SpecifierFront earlier env (o ∷ b ∷ os)) (same_Some (enum_listed None i.0) g i.2) (record { front = o ∷ b ∷ f.front; parts = ap (λ (v : List Lexeme). o ∷ b ∷ v) f.parts; so = enum_alone o is f.so })
  listed_front front os x g (begins.enum_named o w b n is called opens) e =
      let i = bind_some (enumerators_in turns earlier env os) (λ y. Some (enum_listed (Some n) y)) g e in
      let f = enum_list_sound turns earlier env b os i.0 opens i.1 in
      subst (SpecifierFront earlier env (o ∷ w ∷ b ∷ os)) (same_Some (enum_listed (Some n) i.0) g i.2) (record { front = o ∷ w ∷ b ∷ f.front; parts = ap (λ (v : List Lexeme). o ∷ w ∷ b ∷ v) f.parts; so = enum_named o w n is called f.so })

  specifier_step : (os : List Lexeme) (x : Option (Got Listing)) (g : After Specifier) → listing_at os ≡ x
      → specifier_by (λ x. listed_by again (enumerators_in turns earlier) env x.tree.name x.rest x.tree.union_) (plain_at env os) x ≡ Some g → SpecifierFront earlier env os g
  specifier_step os None g is e = plain_sound earlier env os g e
  specifier_step os (Some x) g is e =
      let l = listing_sound os x is in
      subst (λ (v : List Lexeme). SpecifierFront earlier env v g) (sym l.parts) (listed_front l.front x.rest x.tree g l.so e)

-- ---- the words beside it

bare_list : (listed before after : Bool) → not (listed && before) ≡ true → (not listed ≡ false → after ≡ false) → (listed && (before || after)) ≡ false
bare_list false before after e f = refl
bare_list true true after e f = absurd cc
bare_list true false after e f = f refl

after_some : (turns : ℕ) (earlier : List DeclTree) (env : Known) (os : List Lexeme) (x : After Specifier) (g : After Specs) → SpecifierFront earlier env (beside_at turns true turns nothing_said os).rest x
    → specs_after turns (beside_at turns true turns nothing_said os) x ≡ Some g → SpecsFront earlier env os g
after_some turns earlier env os x g f e =
    let s = beside_at turns true turns nothing_said os in
    let r = beside_at turns (not x.tree.listed) turns nothing_said x.rest in
    let t = if_some (not (x.tree.listed && s.tree.attributed)) (Some (specs_of s x r)) g e in
    let after = beside_sound turns (not x.tree.listed) turns nothing_said x.rest in
    subst (SpecsFront earlier env os) (same_Some (specs_of s x r) g t.1)
    (around turns earlier env os x r f (not x.tree.listed) after
    (λ said same. bare_list x.tree.listed s.tree.attributed said.attributed t.0 (λ h. ap (λ (v : Beside). v.attributed) (same ∙ sym after.tree) ∙ after.bare h)))

module _ (turns : ℕ) (earlier : List DeclTree) where
  mutual
    unfolding specs_at

    pub specs_sound : (n : ℕ) (env : Known) (os : List Lexeme) (g : After Specs) → specs_at turns earlier n env os ≡ Some g → SpecsFront earlier env os g
    specs_sound zero env os g e = absurd cc
    specs_sound (suc n) env os g e =
        let s = beside_at turns true turns nothing_said os in
        let i = bind_some (specifier_at turns earlier n env s.rest) (specs_after turns s) g e in
        after_some turns earlier env os i.0 g (specifier_sound n env s.rest i.0 i.1) i.2

    pub specifier_sound : (n : ℕ) (env : Known) (os : List Lexeme) (g : After Specifier) → specifier_at turns earlier n env os ≡ Some g → SpecifierFront earlier env os g
    specifier_sound zero env os g e = absurd cc
    specifier_sound (suc n) env os g e = specifier_step turns earlier env (members_at turns earlier n) (members_sound n) os (listing_at os) g refl e

    pub members_sound : (n : ℕ) → GoesMembers earlier (members_at turns earlier n)
    members_sound zero env whole before ms known os x b parts e = absurd cc
    members_sound (suc n) env whole before ms known os x b parts e =
        let i = bind_some (line_at turns earlier n known ms os) (members_by (members_at turns earlier n)) x e in
        members_step earlier (members_at turns earlier n) (members_sound n) env whole before ms known os i.0 x b parts (line_sound n known ms os i.0 i.1) i.2

    pub line_sound : (n : ℕ) (env : Known) (ms : List MemberTree) (os : List Lexeme) (x : After (List MemberTree)) → line_at turns earlier n env ms os ≡ Some x → LineFront earlier env ms os x
    line_sound zero env ms os x e = absurd cc
    line_sound (suc n) env ms os x e =
        let i = bind_some (specs_at turns earlier n env os) (line_names turns ms) x e in
        line_step turns earlier env ms os i.0 x (specs_sound n env os i.0 i.1) i.2
