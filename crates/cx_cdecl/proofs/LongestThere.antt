-- Reading comes at least as far as each derived front, whatever follows.
use Rattle.std.proofs.Common.{◌≡◌, ℕ, zero, suc, ◌+◌, ◌≤◌, Bool, true, false, ◌&&◌, take, List, [], ◌∷◌, ◌++◌, length, length-append, Option, Some, None, refl, sym, ap, ◌∙◌, subst, append_assoc, arith, inl, inr, ◌⊎◌}
use Rattle.std.proofs.Math.Seq.{take-append_seam}
use Rattle.std.specs.Prelude.{not}
use Rattle.std.proofs.lemmas.Option.{same_Some}
use Rattle.cx_ctree.specs.Types.{TypeTree, tag}
use Rattle.cx_ctree.specs.Path.{type_path}
use Rattle.cx_ctree.specs.Decls.{MemberTree, DeclTree, object, proto, SignatureTree}
use Rattle.cx_cword.specs.declared.word.Punctuator.TheVariants as p
use Rattle.cx_cword.specs.declared.lexeme.Lexeme.{Lexeme}
use Rattle.cx_cword.specs.Reading.{Is, ◌>>=◌}
use Rattle.cx_cname.specs.Known.{Known, with_tag, with_members}
use Rattle.cx_cname.specs.Meanings.{may_have}
use Rattle.cx_cexpr.specs.Kinds.{word_of}
use Rattle.cx_cexpr.specs.Expressions.{IsBase, void_word, int_words, type_name, tag_name, enum_name}
use Rattle.cx_cexpr.specs.Reading.{Few, base_at}
use Rattle.cx_cexpr.proofs.Counted.{NoWord}
use Rattle.cx_cexpr.proofs.Steps.{bind_some}
use Rattle.cx_cexpr.proofs.TypeAgain.{base_longest}
use Rattle.cx_cword.specs.declared.mark.Mark.{Mark}
use Rattle.cx_cword.specs.declared.mark.Mark.TheVariants as m
use Rattle.cx_cdecl.specs.declared.kinds.Head.TheVariants as h
use Rattle.cx_cdecl.specs.Declarations.{Beside, nothing_said, both_said, AreBeside, none_beside, word_beside, attributes_beside, IsSpecifier, declared_before, new_tag, tag_members, members_alone, enum_named, enum_alone, AreSpecs, specs, IsObject, IsFunction}
use Rattle.cx_cdecl.specs.Kinds.{head_of}
use Rattle.cx_cdecl.specs.Reading.{Got, After, Named, Specifier, Specs, Listing, Declared, choose, wanted, if_true, beside_at, after_at, place_at, plain_base, plain_at, specs_of, plain_specs_at, are_distinct, enum_listed, members_listed, listed_by, enumerators_in, specifier_by, listing_at, specs_after, specs_at, specifier_at, members_at, name_at, sizes_after, object_at, declares_object, param_list_at, function_after, declarator_at, or_else, front_specs_at, object_front, front_declarator_at}
use Rattle.cx_cdecl.proofs.BesideSound.{after_sound}
use Rattle.cx_cdecl.proofs.BesideThere.{attributes_there, beside_goes, beside_there}
use Rattle.cx_cdecl.proofs.DeclaratorThere.{object_go}
use Rattle.cx_cdecl.proofs.DeclarationThere.{declared_of, function_go}
use Rattle.cx_cdecl.proofs.DeclarationSound.{IsDeclarator, of_object, of_function, front_specs_sound, front_declarator_sound}
use Rattle.cx_cdecl.proofs.EnumSound.{enum_list_sound}
use Rattle.cx_cdecl.proofs.Follows.{no_mark, choose_other, bind_goes, Room}
use Rattle.cx_cdecl.proofs.Grows.{Fits, fits_few, fits_less}
use Rattle.cx_cdecl.proofs.MembersSound.{no_line, members_sound}
use Rattle.cx_cdecl.proofs.MembersThere.{beside_less, specs_go}
use Rattle.cx_cdecl.proofs.Only.{specs_only, object_only, function_only, object_no_function}
use Rattle.cx_cdecl.proofs.ParamsSound.{param_list_sound}
use Rattle.cx_cdecl.proofs.SpecsThere.{first_beside, specifier_first, first_counted, plain_of, plain_read, plain_head, listing_head, word_head, name_head, old_tag, fresh_tag, said_no_word, said_no_mark}
use Rattle.cx_cdecl.proofs.Steps.{if_some, wanted_some, choose_some}
use Rattle.cx_cdecl.proofs.TagSound.{Begins, Listings, listing_sound}
use Rattle.cx_cdecl.proofs.TagSound as begins
use Rattle.cx_cword.specs.Marks.{fits}

-- ---- without a list in braces

-- the first of what stands beside a type
record Keyed (d : List Lexeme) : Type 0 where
  o : Lexeme
  tail : List Lexeme
  parts : d ≡ o ∷ tail
  word : word_of o.kind ≡ None
  mark : (mark : Mark) → fits mark o.kind ≡ false

beside_either : {d : List Lexeme} {r : Beside} → AreBeside d r → (d ≡ []) ⊎ Keyed d
beside_either none_beside = inl refl
beside_either (word_beside {os = os} {s = s} {said = r} o w is i f) = inr (record { o = o; tail = os; parts = refl; word = ap word_of is ∙ said_no_word w s r f; mark = λ mark. ap (fits mark) is ∙ said_no_mark w s r f mark })
beside_either (attributes_beside {a = a} {os = os} i j) =
    let f = attributes_there i in
    inr (record { o = f.o; tail = f.tail ++ os; parts = ap (λ (v : List Lexeme). v ++ os) f.parts; word = ap word_of f.is; mark = λ mark. ap (fits mark) f.is })

keyed_word : (d rest : List Lexeme) → Keyed d → NoWord (d ++ rest)
keyed_word d rest f = subst (λ (v : List Lexeme). NoWord (v ++ rest)) (sym f.parts) f.word

keyed_mark : (mark : Mark) (d rest : List Lexeme) → Keyed d → no_mark mark (d ++ rest) ≡ true
keyed_mark mark d rest f = ap (λ (v : List Lexeme). no_mark mark (v ++ rest)) f.parts ∙ ap not (f.mark mark)

-- the words of a type are read at least to their end
record BaseFar (env : Known) (front rest : List Lexeme) : Type 0 where
  x : After Specifier
  is : plain_at env (front ++ rest) ≡ Some x
  bare : x.tree.listed ≡ false
  less : length x.rest ≤ length rest

through : {env : Known} {a : List Lexeme} {t : TypeTree} → type_path t ≤ 400 → Few env → IsBase env a t → (rest : List Lexeme) → plain_at env (a ++ rest) ≡ plain_base env (base_at env 400 (a ++ rest)) → BaseFar env a rest
through {env} {a} {t} low few i rest e =
    let g = base_longest env few i 400 rest low in
    record { x = plain_of env g.g.tree g.g.rest; is = e ∙ ap (plain_base env) g.is; bare = refl; less = g.less }

exact : (env known : Known) (a rest : List Lexeme) (t : TypeTree) → plain_at env (a ++ rest) ≡ Some (plain_of known t rest) → BaseFar env a rest
exact env known a rest t e = record { x = plain_of known t rest; is = e; bare = refl; less = omega arith }

base_far : {env : Known} {a : List Lexeme} {t : TypeTree} → type_path t ≤ 400 → Few env → IsBase env a t → (rest : List Lexeme) → BaseFar env a rest
base_far {env} low few (void_word o e) rest = through low few (void_word o e) rest (plain_head env o rest h.Other (ap head_of e))
base_far {env} low few (int_words {os = os} t i) rest =
    let f = first_counted os t i in
    through low few (int_words t i) rest
    (ap (λ (v : List Lexeme). plain_at env (v ++ rest)) f.parts ∙ plain_head env f.o (f.tail ++ rest) h.Other (word_head f.o.kind f.u f.is) ∙ ap (λ (v : List Lexeme). plain_base env (base_at env 400 (v ++ rest))) (sym f.parts))
base_far {env} low few (type_name o n t e f) rest = through low few (type_name o n t e f) rest (plain_head env o rest h.Other (name_head o.kind n e))
base_far {env} low few (tag_name o w n at union e f g i) rest = exact env env (o ∷ w ∷ []) rest (tag at) (old_tag env o w n at union rest e f g i)
base_far {env} low few (enum_name o w n e f g) rest = through low few (enum_name o w n e f g) rest (plain_head env o (w ∷ rest) h.Enum (ap head_of e))

specifier_far : {earlier : List DeclTree} {env known : Known} {a : List Lexeme} {t : TypeTree} {listed : Bool} → Few env → IsSpecifier earlier env a t listed known → listed ≡ false → (rest : List Lexeme) → BaseFar env a rest
specifier_far few (declared_before i low) e rest = base_far low few i rest
specifier_far {env = env} few (new_tag o w n union is called place) e rest = exact env (with_tag env (Some n) union) (o ∷ w ∷ []) rest (tag (length env.tags)) (fresh_tag env o w n union rest is called place)
specifier_far few (tag_members o w n at union e f g i j q) bad rest = absurd cc
specifier_far few (members_alone o union e f) bad rest = absurd cc
specifier_far few (enum_named o w n e f g) bad rest = absurd cc
specifier_far few (enum_alone o e f) bad rest = absurd cc

-- with what stands beside it
record PlainFar (turns : ℕ) (env : Known) (front more rest : List Lexeme) : Type 0 where
  x : After Specifier
  is : plain_at env (front ++ more) ≡ Some x
  bare : x.tree.listed ≡ false
  less : length (beside_at turns true turns nothing_said x.rest).rest ≤ length rest

plain_far : {earlier : List DeclTree} {env known : Known} {c d : List Lexeme} {t : TypeTree} {r : Beside} (turns : ℕ) (rest : List Lexeme) → Few env → IsSpecifier earlier env c t false known → AreBeside d r → (d ≡ []) ⊎ Keyed d → Room turns (d ++ rest) → PlainFar turns env c (d ++ rest) rest
plain_far {env = env} {known = known} {c = c} {d = d} {t = t} turns rest few i j (inl e) room =
    let f = specifier_far few i refl (d ++ rest) in
    let less = beside_less turns true turns nothing_said f.x.rest in
    let most = f.less in
    let none = ap (λ (v : List Lexeme). length (v ++ rest)) e in
    record { x = f.x; is = f.is; bare = f.bare; less = omega (arith, less, most, none) }
plain_far {env = env} {known = known} {c = c} {d = d} {t = t} {r = r} turns rest few i j (inr key) room =
    let f = plain_read few i refl in
    let g = beside_goes j turns true turns nothing_said rest (omega (arith, room)) (omega (arith, room)) (λ off. absurd cc) in
    record {
      x = plain_of known t (d ++ rest);
      is = f.plain (d ++ rest) (keyed_word d rest key);
      bare = refl;
      less = subst (λ (v : Got Beside). length v.rest ≤ length rest) (sym g.goes) (beside_less turns true g.left (both_said nothing_said r) rest);
    }

-- ---- where a list in braces is read

listed_enum : (turns : ℕ) (earlier : List DeclTree) (env : Known) (b : Lexeme) (inside : List Lexeme) (name : Option ℕ) (y : After Specifier) → Is p.OpenBrace b → (enumerators_in turns earlier env inside >>= λ x. Some (enum_listed name x)) ≡ Some y → length y.rest ≤ length inside
listed_enum turns earlier env b inside name y is e =
    let i = bind_some (enumerators_in turns earlier env inside) (λ x. Some (enum_listed name x)) y e in
    let f = enum_list_sound turns earlier env b inside i.0 is i.1 in
    let long = ap length f.parts in
    let more = length-append f.front i.0.rest in
    subst (λ (v : After Specifier). length v.rest ≤ length inside) (same_Some (enum_listed name i.0) y i.2) (omega (arith, long, more))

listed_record : (turns n : ℕ) (earlier : List DeclTree) (env : Known) (inside : List Lexeme) (name : Option ℕ) (union : Bool) (y : After Specifier) → (place_at env union name >>= λ p. members_at turns earlier n p.known [] inside >>= members_listed union name p.place) ≡ Some y → length y.rest ≤ length inside
listed_record turns n earlier env inside name union y e =
    let i = bind_some (place_at env union name) (λ p. members_at turns earlier n p.known [] inside >>= members_listed union name p.place) y e in
    let q = bind_some (members_at turns earlier n i.0.known [] inside) (members_listed union name i.0.place) y i.2 in
    let f = members_sound turns earlier n i.0.known inside [] [] i.0.known inside q.0 no_line refl q.1 in
    let made : List Lexeme → Option (After Specifier) = λ after. Some (record { tree = record { ctype = tag i.0.place; listed = true }; known = with_members q.0.known i.0.place name union q.0.tree; rest = after }) in
    let test : Bool = are_distinct q.0.tree && may_have q.0.known i.0.place q.0.tree in
    let c = wanted_some m.CloseBrace q.0.rest (λ after. if_true test (made after)) y q.2 in
    let t = if_some test (made c.0) y c.2 in
    let long = ap length f.parts in
    let more = length-append f.body q.0.rest in
    let last = ap length c.1.parts in
    subst (λ (v : After Specifier). length v.rest ≤ length inside) (same_Some _ y t.1) (omega (arith, long, more, last))

listed_less : (turns n : ℕ) (earlier : List DeclTree) (env : Known) (front inside : List Lexeme) (x : Listing) (y : After Specifier) → Begins front x → listed_by (members_at turns earlier n) (enumerators_in turns earlier) env x.name inside x.union_ ≡ Some y → length y.rest ≤ length inside
listed_less turns n earlier env front inside x y (begins.record_alone o b union is opens) e = listed_record turns n earlier env inside None union y e
listed_less turns n earlier env front inside x y (begins.record_named o w b k union is called opens) e = listed_record turns n earlier env inside (Some k) union y e
listed_less turns n earlier env front inside x y (begins.enum_alone o b is opens) e = listed_enum turns earlier env b inside None y opens e
listed_less turns n earlier env front inside x y (begins.enum_named o w b k is called opens) e = listed_enum turns earlier env b inside (Some k) y opens e

begins_long : {front : List Lexeme} {x : Listing} → Begins front x → 2 ≤ length front
begins_long (begins.record_alone o b union is opens) = omega arith
begins_long (begins.record_named o w b k union is called opens) = omega arith
begins_long (begins.enum_alone o b is opens) = omega arith
begins_long (begins.enum_named o w b k is called opens) = omega arith

-- the words of a type before a list are few
base_short : {env : Known} {a : List Lexeme} {t : TypeTree} → IsBase env a t → (length a ≤ 2) ⊎ ((rest : List Lexeme) → listing_at (a ++ rest) ≡ None)
base_short (void_word o e) = inl (omega arith)
base_short (int_words {os = os} t i) =
    let f = first_counted os t i in
    inr (λ rest. ap (λ (v : List Lexeme). listing_at (v ++ rest)) f.parts ∙ listing_head f.o (f.tail ++ rest) h.Other (word_head f.o.kind f.u f.is))
base_short (type_name o n t e f) = inl (omega arith)
base_short (tag_name o w n at union e f g i) = inl (omega arith)
base_short (enum_name o w n e f g) = inl (omega arith)

specifier_short : {earlier : List DeclTree} {env known : Known} {a : List Lexeme} {t : TypeTree} {listed : Bool} → IsSpecifier earlier env a t listed known → listed ≡ false → (length a ≤ 2) ⊎ ((rest : List Lexeme) → listing_at (a ++ rest) ≡ None)
specifier_short (declared_before i low) e = base_short i
specifier_short (new_tag o w n union is called place) e = inl (omega arith)
specifier_short (tag_members o w n at union e f g i j q) bad = absurd cc
specifier_short (members_alone o union e f) bad = absurd cc
specifier_short (enum_named o w n e f g) bad = absurd cc
specifier_short (enum_alone o e f) bad = absurd cc

none_not : {A : Type 0} (o : Option A) (x : A) → o ≡ None → o ≡ Some x → ⊥
none_not o x e f = let bad : None ≡ Some x = sym e ∙ f in cc

-- what follows the brace of a list is shorter than what follows the words before it
listing_less : {earlier : List DeclTree} {env known : Known} {c : List Lexeme} {t : TypeTree} (more : List Lexeme) (x : Got Listing) → IsSpecifier earlier env c t false known → listing_at (c ++ more) ≡ Some x → length x.rest ≤ length more
listing_less {c = c} more x i e =
    let l = listing_sound (c ++ more) x e in
    let long = ap length l.parts in
    let whole = length-append c more in
    let front = length-append l.front x.rest in
    let two = begins_long l.so in
    elim (specifier_short i refl) [ inl short ↦ omega (arith, long, whole, front, two, short) | inr none ↦ absurd (none_not (listing_at (c ++ more)) x (none more) e) ]

-- ---- the words of a type

-- a list in braces whose reading is tried is read no further than to where its words' front ends
record Tried (turns : ℕ) (earlier : List DeclTree) (env : Known) (os rest : List Lexeme) (x : After Specs) : Type 0 where
  plain : plain_specs_at turns env os ≡ Some x
  low : length x.rest ≤ length rest
  less : (g : After Specs) → specs_at turns earlier turns env os ≡ Some g → length g.rest ≤ length rest

not_listed : (turns : ℕ) (s : Beside) (inside : List Lexeme) (x : After Specifier) (g : After Specs) (rest : List Lexeme) → x.tree.listed ≡ false → length (beside_at turns true turns nothing_said x.rest).rest ≤ length rest → specs_after turns (record { tree = s; rest = inside }) x ≡ Some g → length g.rest ≤ length rest
not_listed turns s inside x g rest bare less e =
    let b : Got Beside = record { tree = s; rest = inside } in
    let t = if_some (not (x.tree.listed && s.attributed)) (Some (specs_of b x (beside_at turns (not x.tree.listed) turns nothing_said x.rest))) g e in
    let same : specs_of b x (beside_at turns (not x.tree.listed) turns nothing_said x.rest) ≡ g = same_Some _ g t.1 in
    subst (λ (v : After Specs). length v.rest ≤ length rest) same (subst (λ (o : Bool). length (beside_at turns (not o) turns nothing_said x.rest).rest ≤ length rest) (sym bare) less)

is_listed : (turns : ℕ) (b : Got Beside) (y : After Specifier) (g : After Specs) (rest : List Lexeme) → length y.rest ≤ length rest → specs_after turns b y ≡ Some g → length g.rest ≤ length rest
is_listed turns b y g rest less e =
    let t = if_some (not (y.tree.listed && b.tree.attributed)) (Some (specs_of b y (beside_at turns (not y.tree.listed) turns nothing_said y.rest))) g e in
    let same : specs_of b y (beside_at turns (not y.tree.listed) turns nothing_said y.rest) ≡ g = same_Some _ g t.1 in
    let more = beside_less turns (not y.tree.listed) turns nothing_said y.rest in
    subst (λ (v : After Specs). length v.rest ≤ length rest) same (omega (arith, less, more))

-- through the list in braces or without it
specifier_by_less : (turns n : ℕ) (earlier : List DeclTree) (env : Known) (os rest : List Lexeme) (s : Beside) (x : After Specifier) (o : Option (Got Listing)) → listing_at os ≡ o → plain_at env os ≡ Some x → x.tree.listed ≡ false → length (beside_at turns true turns nothing_said x.rest).rest ≤ length rest
    → ((l : Got Listing) → listing_at os ≡ Some l → length l.rest ≤ length rest)
    → (y : After Specifier) (g : After Specs) → specifier_by (λ x. listed_by (members_at turns earlier n) (enumerators_in turns earlier) env x.tree.name x.rest x.tree.union_) (plain_at env os) o ≡ Some y → specs_after turns (record { tree = s; rest = os }) y ≡ Some g → length g.rest ≤ length rest
specifier_by_less turns n earlier env os rest s x None is plain bare low short y g e f =
    let same : x ≡ y = same_Some x y (sym plain ∙ e) in
    not_listed turns s os x g rest bare low (ap (specs_after turns (record { tree = s; rest = os })) same ∙ f)
specifier_by_less turns n earlier env os rest s x (Some l) is plain bare low short y g e f =
    let found = listing_sound os l is in
    let inside = listed_less turns n earlier env found.front l.rest l.tree y found.so e in
    let less = short l is in
    is_listed turns (record { tree = s; rest = os }) y g rest (omega (arith, inside, less)) f

specs_two : (turns n : ℕ) (earlier : List DeclTree) (env : Known) (os inside rest : List Lexeme) (s : Beside) (x : After Specifier) → beside_at turns true turns nothing_said os ≡ record { tree = s; rest = inside } → plain_at env inside ≡ Some x → x.tree.listed ≡ false → length (beside_at turns true turns nothing_said x.rest).rest ≤ length rest
    → ((l : Got Listing) → listing_at inside ≡ Some l → length l.rest ≤ length rest) → (g : After Specs) → specs_at turns earlier n env os ≡ Some g → length g.rest ≤ length rest
unfolding specs_at
specs_two turns zero earlier env os inside rest s x before plain bare low short g e = absurd cc
specs_two turns (suc zero) earlier env os inside rest s x before plain bare low short g e =
    let b = beside_at turns true turns nothing_said os in
    let i = bind_some (specifier_at turns earlier zero env b.rest) (specs_after turns b) g e in
    let bad = i.1 in
    absurd cc
specs_two turns (suc (suc n)) earlier env os inside rest s x before plain bare low short g e =
    let read : (specifier_at turns earlier (suc n) env inside >>= specs_after turns (record { tree = s; rest = inside })) ≡ Some g = ap (λ (b : Got Beside). specifier_at turns earlier (suc n) env b.rest >>= specs_after turns b) (sym before) ∙ e in
    let i = bind_some (specifier_at turns earlier (suc n) env inside) (specs_after turns (record { tree = s; rest = inside })) g read in
    specifier_by_less turns n earlier env inside rest s x (listing_at inside) refl plain bare low short i.0 g i.1 i.2

tried_plain : (turns : ℕ) (env : Known) (os inside : List Lexeme) (s : Beside) (x : After Specifier) → beside_at turns true turns nothing_said os ≡ record { tree = s; rest = inside } → plain_at env inside ≡ Some x
    → plain_specs_at turns env os ≡ Some (specs_of (record { tree = s; rest = inside }) x (beside_at turns true turns nothing_said x.rest))
unfolding plain_specs_at
tried_plain turns env os inside s x before plain =
    ap (λ (b : Got Beside). plain_at env b.rest >>= λ x. Some (specs_of b x (beside_at turns true turns nothing_said x.rest))) before
    ∙ bind_goes (plain_at env inside) (λ x. Some (specs_of (record { tree = s; rest = inside }) x (beside_at turns true turns nothing_said x.rest))) x plain

-- a list in braces that follows directly
direct : {earlier : List DeclTree} {env known : Known} {c d : List Lexeme} {t : TypeTree} (rest : List Lexeme) → IsSpecifier earlier env c t false known → Few env → (d ≡ []) ⊎ Keyed d → (l : Got Listing) → listing_at (c ++ (d ++ rest)) ≡ Some l → length l.rest ≤ length rest
direct {c = c} {d = d} rest i few (inl e) l is =
    let h = listing_less (d ++ rest) l i is in
    let none = ap (λ (v : List Lexeme). length (v ++ rest)) e in
    omega (arith, h, none)
direct {c = c} {d = d} rest i few (inr key) l is = absurd (none_not (listing_at (c ++ (d ++ rest))) l ((plain_read few i refl).unlisted (d ++ rest) (keyed_mark m.OpenBrace d rest key)) is)

tried : {earlier : List DeclTree} {env known : Known} {a c d : List Lexeme} {t : TypeTree} {s r : Beside} (turns : ℕ) (rest : List Lexeme) → AreBeside a s → IsSpecifier earlier env c t false known → AreBeside d r → Few env → Room turns (((a ++ c) ++ d) ++ rest)
    → (x : After Specs) × Tried turns earlier env (((a ++ c) ++ d) ++ rest) rest x
tried {earlier} {env = env} {a = a} {c = c} {d = d} {s = s} turns rest h i j few room =
    let parts : ((a ++ c) ++ d) ++ rest ≡ a ++ (c ++ (d ++ rest)) = append_assoc (a ++ c) d rest ∙ append_assoc a c (d ++ rest) in
    let whole = ap length parts in
    let long = length-append a (c ++ (d ++ rest)) in
    let more = length-append c (d ++ rest) in
    let inside : List Lexeme = c ++ (d ++ rest) in
    let before : beside_at turns true turns nothing_said (((a ++ c) ++ d) ++ rest) ≡ record { tree = s; rest = inside } =
    ap (beside_at turns true turns nothing_said) parts ∙ beside_there h turns true turns nothing_said inside (first_beside c (d ++ rest) (specifier_first i)) (omega (arith, room, whole)) (omega (arith, room, whole)) (λ off. absurd cc) in
    let f = plain_far turns rest few i j (beside_either j) (omega (arith, room, whole, long, more)) in (
      specs_of (record { tree = s; rest = inside }) f.x (beside_at turns true turns nothing_said f.x.rest),
      record {
        plain = tried_plain turns env (((a ++ c) ++ d) ++ rest) inside s f.x before f.is;
        low = f.less;
        less = λ g e. specs_two turns turns earlier env (((a ++ c) ++ d) ++ rest) inside rest s f.x before f.is f.bare f.less (λ l is. direct rest i few (beside_either j) l is) g e;
      },
    )

-- reading the longest front comes at least to the end of this one
record SpecsFar (turns : ℕ) (earlier : List DeclTree) (env : Known) (os rest : List Lexeme) : Type 0 where
  g : After Specs
  is : front_specs_at turns earlier env os ≡ Some g
  less : length g.rest ≤ length rest

far_by : (turns : ℕ) (earlier : List DeclTree) (env : Known) (os rest : List Lexeme) (x : After Specs) (r : Option (After Specs)) → specs_at turns earlier turns env os ≡ r → Tried turns earlier env os rest x → SpecsFar turns earlier env os rest
unfolding front_specs_at
far_by turns earlier env os rest x None e f = record { g = x; is = ap (λ (o : Option (After Specs)). or_else o (plain_specs_at turns env os)) e ∙ f.plain; less = f.low }
far_by turns earlier env os rest x (Some g) e f = record { g = g; is = ap (λ (o : Option (After Specs)). or_else o (plain_specs_at turns env os)) e; less = f.less g e }

listed_far : (turns : ℕ) (earlier : List DeclTree) (env : Known) (os rest : List Lexeme) (g : After Specs) → specs_at turns earlier turns env os ≡ Some g → length g.rest ≤ length rest → SpecsFar turns earlier env os rest
unfolding front_specs_at
listed_far turns earlier env os rest g e less = record { g = g; is = ap (λ (o : Option (After Specs)). or_else o (plain_specs_at turns env os)) e; less = less }

unlisted_far : {earlier : List DeclTree} {env known : Known} {a : List Lexeme} {t : TypeTree} {s : Beside} → AreSpecs earlier env a t s false known → (turns : ℕ) (rest : List Lexeme) → Fits env (a ++ rest) → Room turns (a ++ rest) → SpecsFar turns earlier env (a ++ rest) rest
unlisted_far {earlier} {env} {a = front} (specs {a = a} {c = c} {d = d} h i j bare) turns rest fit room =
    let f = tried turns rest h i j (fits_few env (((a ++ c) ++ d) ++ rest) fit) room in
    far_by turns earlier env (((a ++ c) ++ d) ++ rest) rest f.0 (specs_at turns earlier turns env (((a ++ c) ++ d) ++ rest)) refl f.1

specs_by : {earlier : List DeclTree} {env known : Known} {a : List Lexeme} {t : TypeTree} {s : Beside} (listed : Bool) → AreSpecs earlier env a t s listed known → (turns : ℕ) (rest : List Lexeme) → Fits env (a ++ rest) → Room turns (a ++ rest) → SpecsFar turns earlier env (a ++ rest) rest
specs_by {earlier} {env} {a = a} true h turns rest fit room =
    let g = specs_go h turns turns rest (λ off. absurd cc) fit room (omega (arith, room)) in
    listed_far turns earlier env (a ++ rest) rest g.g g.is g.less
specs_by false h turns rest fit room = unlisted_far h turns rest fit room

-- reading comes at least to the end of each derived front, and gives what it spells where it comes no further
pub record SpecsLongest (turns : ℕ) (earlier : List DeclTree) (env : Known) (front rest : List Lexeme) (t : TypeTree) (s : Beside) (known : Known) : Type 0 where
  pub g : After Specs
  pub is : front_specs_at turns earlier env (front ++ rest) ≡ Some g
  pub less : length g.rest ≤ length rest
  pub same : length g.rest ≡ length rest → (t ≡ g.tree.ctype) × (s ≡ g.tree.said) × (known ≡ g.known)

same_front : (a b c d : List Lexeme) → a ++ c ≡ b ++ d → length d ≡ length c → b ≡ a
same_front a b c d e h =
    let long : length a + length c ≡ length b + length d = sym (length-append a c) ∙ ap length e ∙ length-append b d in
    let same : length b ≡ length a = omega (arith, long, h) in
    sym (take-append_seam b d) ∙ ap (λ n. take n (b ++ d)) same ∙ ap (take (length a)) (sym e) ∙ take-append_seam a c

pub specs_longest : {earlier : List DeclTree} {env known : Known} {a : List Lexeme} {t : TypeTree} {s : Beside} {listed : Bool} → AreSpecs earlier env a t s listed known → (turns : ℕ) (rest : List Lexeme) → Fits env (a ++ rest) → Room turns (a ++ rest) → SpecsLongest turns earlier env a rest t s known
specs_longest {earlier} {env} {known} {a} {t} {s} {listed} h turns rest fit room =
    let f = specs_by listed h turns rest fit room in
    let long = length-append a rest in
    record {
      g = f.g;
      is = f.is;
      less = f.less;
      same = λ e.
          let q = front_specs_sound turns earlier env (a ++ rest) f.g f.is in
          let front : q.front ≡ a = same_front a q.front rest f.g.rest q.parts e in
          let so = subst (λ (v : List Lexeme). AreSpecs earlier env v f.g.tree.ctype f.g.tree.said f.g.tree.listed f.g.known) front q.so in
          let only = specs_only (fits_less env (a ++ rest) a fit (omega (arith, long))) h so in
          (only.type, only.said, only.names);
    }

-- ---- declarators

record DeclaratorFar (turns : ℕ) (env : Known) (base : TypeTree) (os rest : List Lexeme) : Type 0 where
  g : After Declared
  is : front_declarator_at turns env base os ≡ Some g
  less : length g.rest ≤ length rest

function_less : (turns : ℕ) (earlier : List DeclTree) (env : Known) (x : Named) (os : List Lexeme) (g : After Declared) → function_after turns env x os ≡ Some g → length g.rest ≤ length os
unfolding function_after
function_less turns earlier env x os g e =
    let made : After (List Rattle.cx_ctree.specs.Decls.ParamTree) → List Lexeme → Option (After Declared) = λ q after. Some (declared_of (proto (record { name = x.name; result = x.ctype; params = q.tree })) x.lexeme q.known (after_at turns turns after)) in
    let i = bind_some (param_list_at turns env os) (λ q. wanted m.CloseParen q.rest (made q)) g e in
    let c = wanted_some m.CloseParen i.0.rest (made i.0) g i.2 in
    let f = param_list_sound turns earlier env os c.0 i.0 i.1 c.1 in
    let a = after_sound turns turns c.0 in
    let one = ap length f.parts in
    let two = length-append f.front i.0.rest in
    let three = ap length c.1.parts in
    let four = ap length a.parts in
    let five = length-append a.front (after_at turns turns c.0) in
    subst (λ (v : After Declared). length v.rest ≤ length os) (same_Some _ g c.2) (omega (arith, one, two, three, four, five))

declarator_by : (turns : ℕ) (env : Known) (base : TypeTree) (os rest : List Lexeme) (x : After Declared) (r : Option (After Declared)) → declarator_at turns env base os ≡ r → object_front env (object_at turns env base os) ≡ Some x → length x.rest ≤ length rest → ((g : After Declared) → r ≡ Some g → length g.rest ≤ length rest) → DeclaratorFar turns env base os rest
unfolding front_declarator_at
declarator_by turns env base os rest x None e plain low less = record { g = x; is = ap (λ (o : Option (After Declared)). or_else o (object_front env (object_at turns env base os))) e ∙ plain; less = low }
declarator_by turns env base os rest x (Some g) e plain low less = record { g = g; is = ap (λ (o : Option (After Declared)). or_else o (object_front env (object_at turns env base os))) e; less = less g refl }

abbrev plain_declared : ℕ → Known → Got Named → Option (After Declared)
plain_declared turns env x = Some (declares_object env (sizes_after turns env x))

choose_less : (turns : ℕ) (earlier : List DeclTree) (env : Known) (x : Got Named) (rest : List Lexeme) → (x.rest ≡ rest) ⊎ (no_mark m.OpenParen x.rest ≡ true) → length (sizes_after turns env x).rest ≤ length rest
    → (g : After Declared) → choose m.OpenParen x.rest (plain_declared turns env x) (λ rest. function_after turns env x.tree rest) ≡ Some g → length g.rest ≤ length rest
choose_less turns earlier env x rest (inr off) low g e =
    let plain : plain_declared turns env x ≡ Some g = sym (choose_other m.OpenParen x.rest (plain_declared turns env x) (λ rest. function_after turns env x.tree rest) off) ∙ e in
    subst (λ (v : After Declared). length v.rest ≤ length rest) (same_Some (declares_object env (sizes_after turns env x)) g plain) low
choose_less turns earlier env x rest (inl same) low g e =
    elim (choose_some m.OpenParen x.rest (plain_declared turns env x) (λ rest. function_after turns env x.tree rest) g e) [
      | inl c ↦
          let less = function_less turns earlier env x.tree c.0 g c.2 in
          let parts = ap length c.1.parts in
          let whole = ap length same in
          omega (arith, less, parts, whole)
      | inr plain ↦ subst (λ (v : After Declared). length v.rest ≤ length rest) (same_Some (declares_object env (sizes_after turns env x)) g plain) low
    ]

object_far : {env : Known} {base v : TypeTree} {a : List Lexeme} {n : ℕ} {o : Lexeme} (earlier : List DeclTree) → Few env → IsObject env base a n o v → (turns : ℕ) (rest : List Lexeme) → Room turns (a ++ rest) → DeclaratorFar turns env base (a ++ rest) rest
unfolding declarator_at object_at
object_far {env} {base} {a = a} earlier few h turns rest room =
    let f = object_go env few h turns rest room in
    let read = bind_goes (name_at turns base (a ++ rest)) (λ x. choose m.OpenParen x.rest (plain_declared turns env x) (λ rest. function_after turns env x.tree rest)) f.x f.reads in
    let plain = bind_goes (name_at turns base (a ++ rest)) (λ x. Some (sizes_after turns env x)) f.x f.reads in
    declarator_by turns env base (a ++ rest) rest (declares_object env (sizes_after turns env f.x)) (declarator_at turns env base (a ++ rest)) refl (ap (object_front env) plain) f.less
    (λ g e. choose_less turns earlier env f.x rest f.either f.less g (sym read ∙ e))

function_far : {earlier : List DeclTree} {env known : Known} {base : TypeTree} {a : List Lexeme} {o : Lexeme} {f : SignatureTree} → IsFunction earlier env base a o f known → (turns : ℕ) (rest : List Lexeme) → Fits env (a ++ rest) → Room turns (a ++ rest) → DeclaratorFar turns env base (a ++ rest) rest
unfolding front_declarator_at
function_far {env = env} {known = known} {base = base} {a = a} {o = o} {f = f} h turns rest fit room =
    let q = function_go h turns rest fit room in
    let s = after_sound turns q.left rest in
    let one = ap length s.parts in
    let two = length-append s.front (after_at turns q.left rest) in
    record {
      g = declared_of (proto f) o known (after_at turns q.left rest);
      is = ap (λ (v : Option (After Declared)). or_else v (object_front env (object_at turns env base (a ++ rest)))) q.is;
      less = omega (arith, one, two);
    }

pub record SameDeclarator (d e : Declared) (known later : Known) : Type 0 where
  pub tree : d ≡ e
  pub names : known ≡ later

object_declared_same : (n k : ℕ) (o u : Lexeme) (t v : TypeTree) → n ≡ k → o ≡ u → t ≡ v → ◌≡◌ {A = Declared} (record { decl = object n t; lexeme = o }) (record { decl = object k v; lexeme = u })
object_declared_same n k o u t v e f g = ap (λ (x : ℕ). record { decl = object x t; lexeme = o }) e ∙ ap (λ (x : Lexeme). record { decl = object k t; lexeme = x }) f ∙ ap (λ (x : TypeTree). record { decl = object k x; lexeme = u }) g

-- the same lexemes spell no other declarator
pub declarator_only : {earlier : List DeclTree} {env known later : Known} {base : TypeTree} {front : List Lexeme} {d e : Declared} → Fits env front → IsDeclarator earlier env base front d known → IsDeclarator earlier env base front e later → SameDeclarator d e known later
declarator_only {env = env} {front = front} fit (of_object {w = w} o n h) (of_object {w = v} u k g) = let q = object_only (fits_few env front fit) h g in record { tree = object_declared_same n k o u w v q.name q.lexeme q.type; names = refl }
declarator_only fit (of_object o n h) (of_function u f g) = absurd (object_no_function fit h g)
declarator_only fit (of_function o f h) (of_object u k g) = absurd (object_no_function fit g h)
declarator_only fit (of_function o f h) (of_function u q g) =
    let s = function_only fit h g in
    record { tree = ap (λ (x : SignatureTree). record { decl = proto x; lexeme = o }) s.signature ∙ ap (λ (x : Lexeme). record { decl = proto q; lexeme = x }) s.lexeme; names = s.names }

-- reading comes at least to the end of each derived front, and gives what it spells where it comes no further
pub record DeclaratorLongest (turns : ℕ) (env : Known) (base : TypeTree) (front rest : List Lexeme) (d : Declared) (known : Known) : Type 0 where
  pub g : After Declared
  pub is : front_declarator_at turns env base (front ++ rest) ≡ Some g
  pub less : length g.rest ≤ length rest
  pub same : length g.rest ≡ length rest → (d ≡ g.tree) × (known ≡ g.known)

declarator_far : {earlier : List DeclTree} {env known : Known} {base : TypeTree} {a : List Lexeme} {d : Declared} → IsDeclarator earlier env base a d known → (turns : ℕ) (rest : List Lexeme) → Fits env (a ++ rest) → Room turns (a ++ rest) → DeclaratorFar turns env base (a ++ rest) rest
declarator_far {earlier} {env} {a = a} (of_object o n h) turns rest fit room = object_far earlier (fits_few env (a ++ rest) fit) h turns rest room
declarator_far (of_function o f h) turns rest fit room = function_far h turns rest fit room

pub declarator_longest : {earlier : List DeclTree} {env known : Known} {base : TypeTree} {a : List Lexeme} {d : Declared} → IsDeclarator earlier env base a d known → (turns : ℕ) (rest : List Lexeme) → Fits env (a ++ rest) → Room turns (a ++ rest) → DeclaratorLongest turns env base a rest d known
declarator_longest {earlier} {env} {known} {base} {a} {d} h turns rest fit room =
    let f = declarator_far h turns rest fit room in
    let long = length-append a rest in
    record {
      g = f.g;
      is = f.is;
      less = f.less;
      same = λ e.
          let q = front_declarator_sound turns earlier env base (a ++ rest) f.g f.is in
          let front : q.front ≡ a = same_front a q.front rest f.g.rest q.parts e in
          let so = subst (λ (v : List Lexeme). IsDeclarator earlier env base v f.g.tree f.g.known) front q.so in
          let only = declarator_only (fits_less env (a ++ rest) a fit (omega (arith, long))) h so in
          (only.tree, only.names);
    }
