-- Which lexemes spell a declaration without a body (C11 6.7), what it declares, and which names are known after it.
-- `earlier` are the declarations of objects and functions before it. No type and no expression has a path of more than 400 nodes.
use Rattle.std.specs.Prelude.{◌≡◌, ◌≢◌, ℕ, ◌^◌, ◌≤◌, ℤ, pos, ◌+ℤ◌, Bool, true, false, not, ◌&&◌, ◌||◌, nat_lt, List, [], ◌∷◌, ◌++◌, length, Option, Some, None, is_some, slice_get, AllPairs, if◌then◌else◌}
use Rattle.std.specs.List.{list_any, list_all}
use Rattle.std.specs.Option.{option_map_or, option_to_list}
use Rattle.cx_base.specs.Number.{InRange}
use Rattle.cx_ctree.specs.Conversions.{signed_int}
use Rattle.cx_ctree.specs.Types.{TypeTree, int, pointer, array, tag}
use Rattle.cx_ctree.specs.Exprs.{ExprTree}
use Rattle.cx_ctree.specs.Path.{type_path, expr_path}
use Rattle.cx_ctree.specs.Decls.{MemberTree, ParamTree, SignatureTree, DeclTree, types, object, proto}
use Rattle.cx_cword.specs.declared.word.Keyword.{Keyword}
use Rattle.cx_cword.specs.declared.word.Keyword.TheVariants as k
use Rattle.cx_cword.specs.declared.word.Punctuator.{Punctuator}
use Rattle.cx_cword.specs.declared.word.Punctuator.TheVariants as p
use Rattle.cx_cword.specs.declared.lexeme.Lexeme.{Lexeme}
use Rattle.cx_cword.specs.declared.lexeme.LexemeKind.{LexemeKind}
use Rattle.cx_cword.specs.declared.lexeme.LexemeKind.TheVariants as l
use Rattle.cx_cname.specs.Known.{Known, names_type, has_name, a_type, an_object, function_type, meaning, MayBe, with_typedef, with_constant, tag_place, HasKind, with_tag, with_members, with_enum, is_complete}
use Rattle.cx_cword.specs.Reading.{Is, IsWord, name_of, IsName}
use Rattle.cx_cconst.specs.Constants.{constant_in, is_constant}
use Rattle.cx_cexpr.specs.Expressions.{AreSkipped, tag_word, IsBase, IsCond}
use Rattle.cx_cname.specs.Meanings.{has_members}

-- ---- words and attributes beside a type

-- what the words beside a type say: `typedef`; `extern` or `static`; any word of storage or `inline`; whether a list of attributes stands there
pub record Beside : Type 0 where
  pub typedef_ : Bool
  pub linked : Bool
  pub stored : Bool
  pub attributed : Bool

abbrev pub nothing_said : Beside
nothing_said = record { typedef_ = false; linked = false; stored = false; attributed = false }

-- what the word adds to what those after it say
abbrev pub also_said : Keyword → Beside → Option Beside
also_said k.Typedef s = Some (record s { typedef_ = true; stored = true })
also_said k.Extern s = Some (record s { linked = true; stored = true })
also_said k.Static s = Some (record s { linked = true; stored = true })
also_said k.Inline s = Some (record s { stored = true })
also_said k.Register s = Some (record s { stored = true })
also_said k.Skipped s = Some s
also_said _ s = None

-- what the words before and after a type say together
abbrev pub both_said : Beside → Beside → Beside
both_said s r = record { typedef_ = s.typedef_ || r.typedef_; linked = s.linked || r.linked; stored = s.stored || r.stored; attributed = s.attributed || r.attributed }

-- the bracket that closes one that opens
abbrev pub partner : LexemeKind → Option Punctuator
partner (l.Punctuator p.OpenParen) = Some p.CloseParen
partner (l.Punctuator p.OpenBracket) = Some p.CloseBracket
partner (l.Punctuator p.OpenBrace) = Some p.CloseBrace
partner _ = None

-- neither a bracket, nor a name that as an attribute changes a type
abbrev pub is_plain : LexemeKind → Bool
is_plain (l.Punctuator p.OpenParen) = false
is_plain (l.Punctuator p.OpenBracket) = false
is_plain (l.Punctuator p.OpenBrace) = false
is_plain (l.Punctuator p.CloseParen) = false
is_plain (l.Punctuator p.CloseBracket) = false
is_plain (l.Punctuator p.CloseBrace) = false
is_plain (l.Attributive n) = false
is_plain _ = true

-- what may stand in a list of attributes: its brackets pair
pub data AreBalanced : List Lexeme → Type 0 where
  none_balanced : AreBalanced []
  plain_balanced : {os : List Lexeme} (o : Lexeme) → is_plain o.kind ≡ true → AreBalanced os → AreBalanced (o ∷ os)
  group_balanced : {a c : List Lexeme} (o m : Lexeme) (close : Punctuator) → partner o.kind ≡ Some close → AreBalanced a → Is close m → AreBalanced c → AreBalanced (o ∷ a ++ m ∷ c)

pub data IsAttributes (word : Keyword) : List Lexeme → Type 0 where
  attributes : {a : List Lexeme} (o m c : Lexeme) → IsWord word o → Is p.OpenParen m → AreBalanced a → Is p.CloseParen c → IsAttributes word (o ∷ m ∷ a ++ c ∷ [])

pub data AreBeside : List Lexeme → Beside → Type 0 where
  none_beside : AreBeside [] nothing_said
  word_beside : {os : List Lexeme} {s said : Beside} (o : Lexeme) (word : Keyword) → IsWord word o → AreBeside os s → also_said word s ≡ Some said → AreBeside (o ∷ os) said
  attributes_beside : {a os : List Lexeme} {s : Beside} → IsAttributes k.Attribute a → AreBeside os s → AreBeside (a ++ os) (record s { attributed = true })

-- what may stand after the parameters of a function
pub data AreAfter : List Lexeme → Type 0 where
  none_after : AreAfter []
  attributes_after : {a os : List Lexeme} → IsAttributes k.Attribute a → AreAfter os → AreAfter (a ++ os)
  asm_after : {a os : List Lexeme} → IsAttributes k.Asm a → AreAfter os → AreAfter (a ++ os)

-- ---- declarators (C11 6.7.6)

-- the type with the stars that stand there
pub data ArePointers (t : TypeTree) : List Lexeme → TypeTree → Type 0 where
  no_star : ArePointers t [] t
  also_star : {a c : List Lexeme} {w : TypeTree} (o : Lexeme) → ArePointers t a w → Is p.Star o → AreSkipped c → ArePointers t (a ++ o ∷ c) (pointer w)

-- the arrays of elements of type t that these sizes make, each from 1 to 2^31
pub data AreSizes (env : Known) (t : TypeTree) : List Lexeme → TypeTree → Type 0 where
  no_size : AreSizes env t [] t
  also_size : {a c : List Lexeme} {x : ExprTree} {w : TypeTree} (o m : Lexeme) (n : ℕ) → Is p.OpenBracket o → IsCond env a x → Is p.CloseBracket m → expr_path x ≤ 400 → constant_in env x ≡ Some (pos n) → 1 ≤ n → n ≤ 2 ^ 31
      → AreSizes env t c w → is_complete env w ≡ true → AreSizes env t (o ∷ a ++ m ∷ c) (array w n)

-- a declarator of a name that is no function: the name, its lexeme and its type
pub data IsObject (env : Known) (t : TypeTree) : List Lexeme → ℕ → Lexeme → TypeTree → Type 0 where
  object_of : {a c : List Lexeme} {w v : TypeTree} (o : Lexeme) (n : ℕ) → ArePointers t a w → IsName n o → AreSizes env w c v → type_path v ≤ 400 → IsObject env t (a ++ o ∷ c) n o v

-- a parameter of array type is a pointer to the element (C11 6.7.6.3)
abbrev pub adjusted : TypeTree → TypeTree
adjusted (array t n) = pointer t
adjusted t = t

-- the lexeme is struct, union or enum
abbrev pub is_tag_word : LexemeKind → Bool
is_tag_word (l.Keyword k.Struct) = true
is_tag_word (l.Keyword k.Union) = true
is_tag_word (l.Keyword k.Enum) = true
is_tag_word _ = false

abbrev pub names_after : (tagged : Bool) → List Lexeme → List ℕ
names_after tagged [] = []
names_after tagged (o ∷ os) = (if tagged then [] else option_to_list (name_of o.kind)) ++ names_after (is_tag_word o.kind) os

-- the names in a list of lexemes, but for those of structs, unions and enumerations
abbrev pub names_used : List Lexeme → List ℕ
names_used os = names_after false os

-- what stands after the name of a parameter, with the names that its sizes use
pub data IsParamSize (env : Known) (t : TypeTree) : List Lexeme → TypeTree → List ℕ → Type 0 where
  param_plain : IsParamSize env t [] (adjusted t) []
  param_open : {c : List Lexeme} {w : TypeTree} (o m : Lexeme) → Is p.OpenBracket o → Is p.CloseBracket m → AreSizes env t c w → is_complete env w ≡ true → IsParamSize env t (o ∷ m ∷ c) (pointer w) (names_used c)
  param_sized : {a : List Lexeme} {w : TypeTree} {n : ℕ} → AreSizes env t a (array w n) → nat_lt 0 (length a) ≡ true → IsParamSize env t a (pointer w) (names_used a)

-- no name that a size uses is a parameter of the list
abbrev pub are_outside : List ParamTree → List ℕ → Bool
are_outside qs ns = list_all (λ n. not (list_any (λ q. has_name n q.name) qs)) ns

-- ---- specifiers (C11 6.7), enumerations (6.7.2.2), members (6.7.2.1) and parameters (6.7.6.3)

-- the tag of this name, declared where it is not
abbrev pub tag_declared : Known → ℕ → Bool → Known
tag_declared env n union = if is_some (tag_place env n) then env else with_tag env (Some n) union

-- an enumerator, where `next` is one more than the last value: its value, which int holds
pub data IsEnumerator (env : Known) (next : ℤ) : List Lexeme → ℕ → ℤ → Type 0 where
  enumerator_next : (o : Lexeme) (n : ℕ) → IsName n o → IsEnumerator env next (o ∷ []) n next
  enumerator_equal : {a : List Lexeme} {x : ExprTree} {v : ℤ} (o m : Lexeme) (n : ℕ) → IsName n o → Is p.Assign m → IsCond env a x → expr_path x ≤ 400 → constant_in env x ≡ Some v → IsEnumerator env next (o ∷ m ∷ a) n v

-- enumerators in order, with the last value
pub data AreEnumerators (earlier : List DeclTree) (env : Known) : List Lexeme → ℤ → Known → Type 0 where
  first_enumerator : {a : List Lexeme} {n : ℕ} {v : ℤ} → IsEnumerator env (pos 0) a n v → InRange 4 true v → meaning env earlier n ≡ None → AreEnumerators earlier env a v (with_constant env n v)
  also_enumerator : {a c : List Lexeme} {n : ℕ} {v w : ℤ} {known : Known} (o : Lexeme) → AreEnumerators earlier env a v known → Is p.Comma o → IsEnumerator known (v +ℤ pos 1) c n w → InRange 4 true w → meaning known earlier n ≡ None
      → AreEnumerators earlier env (a ++ o ∷ c) w (with_constant known n w)

pub data IsEnumList (earlier : List DeclTree) (env : Known) : List Lexeme → Known → Type 0 where
  enum_list : {a : List Lexeme} {v : ℤ} {known : Known} (o m : Lexeme) → Is p.OpenBrace o → AreEnumerators earlier env a v known → Is p.CloseBrace m → IsEnumList earlier env (o ∷ a ++ m ∷ []) known
  enum_list_comma : {a : List Lexeme} {v : ℤ} {known : Known} (o c m : Lexeme) → Is p.OpenBrace o → AreEnumerators earlier env a v known → Is p.Comma c → Is p.CloseBrace m → IsEnumList earlier env (o ∷ a ++ c ∷ m ∷ []) known

-- the declarators of members, each of a complete type
pub data AreMemberNames : Known → TypeTree → List Lexeme → List MemberTree → Type 0 where
  first_name : {env : Known} {t w : TypeTree} {a : List Lexeme} {n : ℕ} {o : Lexeme} → IsObject env t a n o w → is_complete env w ≡ true → AreMemberNames env t a (record { name = n; ctype = w } ∷ [])
  also_name : {env : Known} {t w : TypeTree} {a c : List Lexeme} {ms : List MemberTree} {n : ℕ} {o : Lexeme} (m : Lexeme) → AreMemberNames env t a ms → Is p.Comma m → IsObject env t c n o w → is_complete env w ≡ true
      → AreMemberNames env t (a ++ m ∷ c) (ms ++ record { name = n; ctype = w } ∷ [])

mutual
  -- the words of a type, with whether a list in braces stands among them
  pub data IsSpecifier (earlier : List DeclTree) : Known → List Lexeme → TypeTree → Bool → Known → Type 0 where
    declared_before : {env : Known} {os : List Lexeme} {t : TypeTree} → IsBase env os t → type_path t ≤ 400 → IsSpecifier earlier env os t false env
    new_tag : {env : Known} (o m : Lexeme) (n : ℕ) (union : Bool) → IsWord (tag_word union) o → IsName n m → tag_place env n ≡ None → IsSpecifier earlier env (o ∷ m ∷ []) (tag (length env.tags)) false (with_tag env (Some n) union)
    tag_members : {env known : Known} {a : List Lexeme} {ms : List MemberTree} (o m : Lexeme) (n at : ℕ) (union : Bool) → IsWord (tag_word union) o → IsName n m → tag_place (tag_declared env n union) n ≡ Some at → HasKind (tag_declared env n union) at union
        → IsMemberList earlier (tag_declared env n union) a ms known → has_members known at ≡ false → IsSpecifier earlier env (o ∷ m ∷ a) (tag at) true (with_members known at (Some n) union ms)
    members_alone : {env known : Known} {a : List Lexeme} {ms : List MemberTree} (o : Lexeme) (union : Bool) → IsWord (tag_word union) o → IsMemberList earlier (with_tag env None union) a ms known
        → IsSpecifier earlier env (o ∷ a) (tag (length env.tags)) true (with_members known (length env.tags) None union ms)
    enum_named : {env known : Known} {a : List Lexeme} (o m : Lexeme) (n : ℕ) → IsWord k.Enum o → IsName n m → IsEnumList earlier env a known → IsSpecifier earlier env (o ∷ m ∷ a) (int signed_int) true (with_enum known n)
    enum_alone : {env known : Known} {a : List Lexeme} (o : Lexeme) → IsWord k.Enum o → IsEnumList earlier env a known → IsSpecifier earlier env (o ∷ a) (int signed_int) true known

  -- the words of a type with the words beside it: the type, what those say, whether a list in braces stands there, and the names known after it; no attribute stands beside a list
  pub data AreSpecs (earlier : List DeclTree) : Known → List Lexeme → TypeTree → Beside → Bool → Known → Type 0 where
    specs : {env known : Known} {a c d : List Lexeme} {t : TypeTree} {listed : Bool} {s r : Beside} → AreBeside a s → IsSpecifier earlier env c t listed known → AreBeside d r
        → (listed && (s.attributed || r.attributed)) ≡ false → AreSpecs earlier env (a ++ c ++ d) t (both_said s r) listed known

  -- members in braces; no two have one name
  pub data IsMemberList (earlier : List DeclTree) : Known → List Lexeme → List MemberTree → Known → Type 0 where
    member_list : {env known : Known} {a : List Lexeme} {ms : List MemberTree} (o m : Lexeme) → Is p.OpenBrace o → AreMembers earlier env a ms known → AllPairs (λ x y. x.name ≢ y.name) ms → Is p.CloseBrace m → IsMemberList earlier env (o ∷ a ++ m ∷ []) ms known

  pub data AreMembers (earlier : List DeclTree) : Known → List Lexeme → List MemberTree → Known → Type 0 where
    first_members : {env known : Known} {a : List Lexeme} {ms : List MemberTree} → IsMemberLine earlier env a ms known → AreMembers earlier env a ms known
    also_members : {env known later : Known} {a c : List Lexeme} {ms ns : List MemberTree} → AreMembers earlier env a ms known → IsMemberLine earlier known c ns later → AreMembers earlier env (a ++ c) (ms ++ ns) later

  pub data IsMemberLine (earlier : List DeclTree) : Known → List Lexeme → List MemberTree → Known → Type 0 where
    member_line : {env known : Known} {a c : List Lexeme} {t : TypeTree} {s : Beside} {listed : Bool} {ms : List MemberTree} (o : Lexeme) → AreSpecs earlier env a t s listed known → s.stored ≡ false → s.attributed ≡ false
        → AreMemberNames known t c ms → Is p.Semicolon o → IsMemberLine earlier env (a ++ c ++ o ∷ []) ms known

-- a parameter with the names that its sizes use; its own name is no type's
pub data IsParam (earlier : List DeclTree) (env : Known) : List Lexeme → ParamTree → List ℕ → Known → Type 0 where
  param_alone : {known : Known} {a c d : List Lexeme} {z : List ℕ} {t w v : TypeTree} {s : Beside} → AreSpecs earlier env a t s false known → s.attributed ≡ false → ArePointers t c w → IsParamSize known w d v z → type_path v ≤ 400
      → IsParam earlier env (a ++ c ++ d) (record { name = None; ctype = v }) z known
  param_named : {known : Known} {a c d : List Lexeme} {z : List ℕ} {t w v : TypeTree} {s : Beside} (o : Lexeme) (n : ℕ) → AreSpecs earlier env a t s false known → s.attributed ≡ false → ArePointers t c w → IsName n o → names_type known n ≡ false
      → IsParamSize known w d v z → type_path v ≤ 400 → IsParam earlier env (a ++ c ++ o ∷ d) (record { name = Some n; ctype = v }) z known

pub data AreParams (earlier : List DeclTree) (env : Known) : List Lexeme → List ParamTree → List ℕ → Known → Type 0 where
  first_param : {known : Known} {a : List Lexeme} {z : List ℕ} {q : ParamTree} → IsParam earlier env a q z known → AreParams earlier env a (q ∷ []) z known
  also_param : {known later : Known} {a c : List Lexeme} {y z : List ℕ} {qs : List ParamTree} {q : ParamTree} (o : Lexeme) → AreParams earlier env a qs y known → Is p.Comma o → IsParam earlier known c q z later
      → AreParams earlier env (a ++ o ∷ c) (qs ++ q ∷ []) (y ++ z) later

abbrev pub is_void_word : LexemeKind → Bool
is_void_word (l.Keyword k.Void) = true
is_void_word _ = false

-- the word void alone
abbrev pub is_void_alone : List Lexeme → Bool
is_void_alone (o ∷ []) = is_void_word o.kind
is_void_alone _ = false

-- what stands between the parentheses of a function
pub data IsParamList (earlier : List DeclTree) (env : Known) : List Lexeme → List ParamTree → Known → Type 0 where
  no_param : IsParamList earlier env [] [] env
  void_param : (o : Lexeme) → IsWord k.Void o → IsParamList earlier env (o ∷ []) [] env
  params : {known : Known} {a : List Lexeme} {z : List ℕ} {qs : List ParamTree} → AreParams earlier env a qs z known → is_void_alone a ≡ false → are_outside qs z ≡ true → IsParamList earlier env a qs known

-- a declarator of a function: its lexeme and its name and type
pub data IsFunction (earlier : List DeclTree) (env : Known) (t : TypeTree) : List Lexeme → Lexeme → SignatureTree → Known → Type 0 where
  function_of : {known : Known} {a c d : List Lexeme} {w : TypeTree} {qs : List ParamTree} (o m e : Lexeme) (n : ℕ) → ArePointers t a w → type_path w ≤ 400 → IsName n o → Is p.OpenParen m → IsParamList earlier env c qs known → Is p.CloseParen e → AreAfter d
      → IsFunction earlier env t (a ++ o ∷ m ∷ c ++ e ∷ d) o (record { name = n; result = w; params = qs }) known

-- ---- declarations

-- a declarator of a declaration, among the names known before it; `typedef` where the mark is true
pub data IsInitDeclarator (earlier : List DeclTree) (env : Known) (t : TypeTree) : Bool → List Lexeme → DeclTree → Known → Type 0 where
  type_declared : {a : List Lexeme} {o : Lexeme} {n : ℕ} {w : TypeTree} → IsObject env t a n o w → MayBe env earlier n (a_type w) → IsInitDeclarator earlier env t true a types (with_typedef env n w)
  object_declared : {a : List Lexeme} {o : Lexeme} {n : ℕ} {w : TypeTree} → IsObject env t a n o w → MayBe env earlier n (an_object w) → IsInitDeclarator earlier env t false a (object n w) env
  object_initialised : {a c : List Lexeme} {o : Lexeme} {n : ℕ} {w : TypeTree} {x : ExprTree} (m : Lexeme) → IsObject env t a n o w → MayBe env earlier n (an_object w) → Is p.Assign m → IsCond env c x → expr_path x ≤ 400 → is_constant env x ≡ true
      → IsInitDeclarator earlier env t false (a ++ m ∷ c) (object n w) env
  function_declared : {a : List Lexeme} {o : Lexeme} {f : SignatureTree} {known : Known} → IsFunction earlier env t a o f known → MayBe known earlier f.name (function_type f) → IsInitDeclarator earlier env t false a (proto f) known

-- declarators in order
pub data AreInitDeclarators (earlier : List DeclTree) (env : Known) (t : TypeTree) (typedef_ : Bool) : List Lexeme → List DeclTree → Known → Type 0 where
  first_declarator : {a : List Lexeme} {d : DeclTree} {known : Known} → IsInitDeclarator earlier env t typedef_ a d known → AreInitDeclarators earlier env t typedef_ a (d ∷ []) known
  also_declarator : {a c : List Lexeme} {ds : List DeclTree} {d : DeclTree} {known later : Known} (o : Lexeme) → AreInitDeclarators earlier env t typedef_ a ds known → Is p.Comma o → IsInitDeclarator (earlier ++ ds) known t typedef_ c d later
      → AreInitDeclarators earlier env t typedef_ (a ++ o ∷ c) (ds ++ d ∷ []) later

abbrev pub is_function : DeclTree → Bool
is_function (proto f) = true
is_function _ = false

-- a declaration; attributes stand beside the type only where all declarators are those of functions
pub data IsDeclaration (earlier : List DeclTree) (env : Known) : List Lexeme → List DeclTree → Known → Type 0 where
  declares_types : {a : List Lexeme} {t : TypeTree} {s : Beside} {listed : Bool} {known : Known} (o : Lexeme) → AreSpecs earlier env a t s listed known → s.attributed ≡ false → Is p.Semicolon o → IsDeclaration earlier env (a ++ o ∷ []) (types ∷ []) known
  declares : {a c : List Lexeme} {t : TypeTree} {s : Beside} {listed : Bool} {known later : Known} {ds : List DeclTree} (o : Lexeme) → AreSpecs earlier env a t s listed known → AreInitDeclarators earlier known t s.typedef_ c ds later
      → (s.attributed && not (list_all is_function ds)) ≡ false → Is p.Semicolon o → IsDeclaration earlier env (a ++ c ++ o ∷ []) ds later
