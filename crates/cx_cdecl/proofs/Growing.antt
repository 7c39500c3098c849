-- The names that the words of a type declare are few, and the types of members are complete.
use Rattle.std.proofs.Common.{◌≡◌, ◌+◌, ◌≤◌, Bool, true, false, List, [], ◌∷◌, ◌++◌, length, length-append, Some, None, refl, arith}
use Rattle.cx_base.proofs.General.{true_both}
use Rattle.cx_ctree.specs.Types.{TypeTree}
use Rattle.cx_ctree.specs.Decls.{MemberTree, DeclTree}
use Rattle.cx_cword.specs.declared.lexeme.Lexeme.{Lexeme}
use Rattle.cx_cname.specs.Known.{Known, with_tag, with_members, with_enum, is_complete, undeclared_members}
use Rattle.cx_cdecl.proofs.TagSound.{got_last}
use Rattle.cx_cdecl.specs.Declarations.{Beside, tag_declared, IsEnumList, enum_list, enum_list_comma, IsSpecifier, declared_before, new_tag, tag_members, members_alone, enum_named, enum_alone, AreSpecs, specs, IsMemberList, member_list, AreMembers, first_members, also_members, IsMemberLine, member_line, AreMemberNames, first_name, also_name}
use Rattle.cx_cdecl.proofs.EnumThere.{enumerators_grow}
use Rattle.cx_cdecl.proofs.Grows.{Grows, grows_none, grows_then, grows_more, grows_tag, grows_members, place_apart, apart_before, past_apart, no_members, grows_declared, grows_enum, are_complete, members_grow, complete_both}
use Rattle.cx_cname.specs.Meanings.{has_members}

pub list_grows : {earlier : List DeclTree} {env known : Known} {a : List Lexeme} → IsEnumList earlier env a known → Grows env known 0
list_grows (enum_list o m opens h shuts) = enumerators_grow h
list_grows (enum_list_comma o c m opens h is shuts) = enumerators_grow h

within : (a c d : List Lexeme) → length c ≤ length ((a ++ c) ++ d)
within a c d = let e = length-append (a ++ c) d in let f = length-append a c in omega (arith, e, f)

mutual
  pub specifier_grows : {earlier : List DeclTree} {env known : Known} {a : List Lexeme} {t : TypeTree} {listed : Bool} → IsSpecifier earlier env a t listed known → Grows env known (length a)
  specifier_grows (declared_before {env = env} {os = os} i low) = grows_none env (length os)
  specifier_grows (new_tag {env = env} o m n union e f g) = grows_more env (with_tag env (Some n) union) 1 2 (grows_tag env (Some n) union) (omega arith)
  specifier_grows (tag_members {env = env} {known = known} {a = a} {ms = ms} o m n at union e f g i j q) =
      let first = grows_then env (tag_declared env n union) known 1 (length a) (1 + length a) (grows_declared env n union) (braced_grows j) (omega arith) in
      let apart = apart_before env (tag_declared env n union) 1 at (grows_declared env n union) (place_apart (tag_declared env n union) n at g) in
      grows_more env (with_members known at (Some n) union ms) (1 + length a) (length (o ∷ m ∷ a)) (grows_members env known (1 + length a) at (Some n) union ms first apart) (omega arith)
  specifier_grows (members_alone {env = env} {known = known} {a = a} {ms = ms} o union e j) =
      let first = grows_then env (with_tag env None union) known 1 (length a) (1 + length a) (grows_tag env None union) (braced_grows j) (omega arith) in
      grows_more env (with_members known (length env.tags) None union ms) (1 + length a) (length (o ∷ a)) (grows_members env known (1 + length a) (length env.tags) None union ms first (past_apart env)) (omega arith)
  specifier_grows (enum_named {env = env} {known = known} {a = a} o m n e f j) = grows_then env known (with_enum known n) 0 0 (length (o ∷ m ∷ a)) (list_grows j) (grows_enum known n 0) (omega arith)
  specifier_grows (enum_alone {env = env} {known = known} {a = a} o e j) = grows_more env known 0 (length (o ∷ a)) (list_grows j) (omega arith)

  pub specs_grow : {earlier : List DeclTree} {env known : Known} {a : List Lexeme} {t : TypeTree} {s : Beside} {listed : Bool} → AreSpecs earlier env a t s listed known → Grows env known (length a)
  specs_grow (specs {env = env} {known = known} {a = a} {c = c} {d = d} h i j e) = grows_more env known (length c) (length ((a ++ c) ++ d)) (specifier_grows i) (within a c d)

  pub braced_grows : {earlier : List DeclTree} {env known : Known} {a : List Lexeme} {ms : List MemberTree} → IsMemberList earlier env a ms known → Grows env known (length a)
  braced_grows (member_list {env = env} {known = known} {a = a} o m opens h pairs shuts) = grows_more env known (length a) (length (o ∷ (a ++ m ∷ []))) (lines_grow h) (let e = length-append a (m ∷ []) in omega (arith, e))

  pub lines_grow : {earlier : List DeclTree} {env known : Known} {a : List Lexeme} {ms : List MemberTree} → AreMembers earlier env a ms known → Grows env known (length a)
  lines_grow (first_members h) = line_grows h
  lines_grow (also_members {env = env} {known = known} {later = later} {a = a} {c = c} h i) = grows_then env known later (length a) (length c) (length (a ++ c)) (lines_grow h) (line_grows i) (let e = length-append a c in omega (arith, e))

  pub line_grows : {earlier : List DeclTree} {env known : Known} {a : List Lexeme} {ms : List MemberTree} → IsMemberLine earlier env a ms known → Grows env known (length a)
  line_grows (member_line {env = env} {known = known} {a = a} {c = c} o h e f i is) = grows_more env known (length a) (length ((a ++ c) ++ o ∷ [])) (specs_grow h) (let e = length-append (a ++ c) (o ∷ []) in let f = length-append a c in omega (arith, e, f))

pub names_complete : {env : Known} {t : TypeTree} {a : List Lexeme} {ms : List MemberTree} → AreMemberNames env t a ms → are_complete env ms ≡ true
names_complete {env} (first_name {w = w} h e) = true_both (is_complete env w) true e refl
names_complete {env} (also_name {w = w} {ms = ms} {n = n} m h is i e) = complete_both env ms (record { name = n; ctype = w } ∷ []) (names_complete h) (true_both (is_complete env w) true e refl)

line_complete : {earlier : List DeclTree} {env known : Known} {a : List Lexeme} {ms : List MemberTree} → IsMemberLine earlier env a ms known → are_complete known ms ≡ true
line_complete (member_line o h e f i is) = names_complete i

-- each member is of a type that is complete where the list ends
pub members_complete : {earlier : List DeclTree} {env known : Known} {a : List Lexeme} {ms : List MemberTree} → AreMembers earlier env a ms known → are_complete known ms ≡ true
members_complete (first_members h) = line_complete h
members_complete (also_members {known = known} {later = later} {c = c} {ms = ms} {ns = ns} h i) = complete_both later ms ns (members_grow known later (length c) (line_grows i) ms (members_complete h)) (line_complete i)

-- a tag without a name, of which the members are read, has none before
pub free_so : (env : Known) (union : Bool) {earlier : List DeclTree} {known : Known} {a : List Lexeme} {ms : List MemberTree} → IsMemberList earlier (with_tag env None union) a ms known → has_members known (length env.tags) ≡ false
free_so env union {known = known} h = no_members known (length env.tags) (undeclared_members None union) ((braced_grows h).kept (length env.tags) (undeclared_members None union) (got_last env.tags (undeclared_members None union)) refl) refl
