-- Declarations declare only enumeration constants that are small, and no function with a body.
use Rattle.std.proofs.Common.{ℕ, ℤ, Bool, true, false, List, [], ◌∷◌, Some, refl}
use Rattle.std.specs.Prelude.{All, is_some, if◌then◌else◌}
use Rattle.std.proofs.lemmas.List.Elements.{All-nil, All-cons, All-append}
use Rattle.cx_base.specs.Number.{InRange}
use Rattle.cx_cdecl.specs.Declarations.{Beside, tag_declared, AreEnumerators, first_enumerator, also_enumerator, IsEnumList, enum_list, enum_list_comma, IsSpecifier, declared_before, new_tag, tag_members, members_alone, enum_named, enum_alone, AreSpecs, specs, IsMemberList, member_list, AreMembers, first_members, also_members, IsMemberLine, member_line, IsParam, param_alone, param_named, AreParams, first_param, also_param, IsParamList, no_param, void_param, params, IsFunction, function_of, IsInitDeclarator, type_declared, object_declared, object_initialised, function_declared, AreInitDeclarators, first_declarator, also_declarator, IsDeclaration, declares_types, declares}
use Rattle.cx_cname.specs.Known.{Known, with_constant, with_tag, tag_place}
use Rattle.cx_ctree.specs.Decls.{MemberTree, ParamTree, SignatureTree, DeclTree, types}
use Rattle.cx_ctree.specs.Types.{TypeTree}
use Rattle.cx_cword.specs.declared.lexeme.Lexeme.{Lexeme}
use Rattle.cx_gline.proofs.Bounds.{in_range}
use Rattle.cx_gline.specs.Law.{EnumerationsSmall}
use Rattle.cx_gline.specs.Lines.{IsSmall}
use Rattle.cx_cnumber.specs.Law.{DeclSmall}

-- an enumeration constant is a number of int (C11 6.7.2.2)
with_small : (env : Known) (n : ℕ) (v : ℤ) → EnumerationsSmall env → InRange 4 true v → EnumerationsSmall (with_constant env n v)
with_small env n v h r =
    let P : ℕ × ℤ → Type 0 = λ c. IsSmall c.1 in
    All-append P env.consts ((n, v) ∷ []) h (All-cons P (n, v) [] (in_range 4 true v refl r) (All-nil P))

tag_small : (env : Known) (n : ℕ) (union : Bool) → EnumerationsSmall env → EnumerationsSmall (tag_declared env n union)
tag_small env n union h = by (is_some (tag_place env n))
  where
    by : (z : Bool) → EnumerationsSmall (if z then env else with_tag env (Some n) union)
    by true = h
    by false = h

module _ (earlier : List DeclTree) where
  enumerators_small : {env known : Known} {os : List Lexeme} {v : ℤ} → AreEnumerators earlier env os v known → EnumerationsSmall env → EnumerationsSmall known
  enumerators_small {env = env} (first_enumerator {n = n} {v = v} h r new) e = with_small env n v e r
  enumerators_small (also_enumerator {n = n} {w = w} {known = now} o f comma h r new) e = with_small now n w (enumerators_small f e) r

  enum_list_small : {env known : Known} {os : List Lexeme} → IsEnumList earlier env os known → EnumerationsSmall env → EnumerationsSmall known
  enum_list_small (enum_list o m opens h closes) e = enumerators_small h e
  enum_list_small (enum_list_comma o c m opens h comma closes) e = enumerators_small h e

  mutual
    specifier_small : {env known : Known} {os : List Lexeme} {t : TypeTree} {listed : Bool} → IsSpecifier earlier env os t listed known → EnumerationsSmall env → EnumerationsSmall known
    specifier_small (declared_before h low) e = e
    specifier_small (new_tag o m n union word name none) e = e
    specifier_small (tag_members {env = env} o m n at union word name place kind h none) e = member_list_small h (tag_small env n union e)
    specifier_small (members_alone o union word h) e = member_list_small h e
    specifier_small (enum_named o m n word name h) e = enum_list_small h e
    specifier_small (enum_alone o word h) e = enum_list_small h e

    pub specs_small : {env known : Known} {os : List Lexeme} {t : TypeTree} {s : Beside} {listed : Bool} → AreSpecs earlier env os t s listed known → EnumerationsSmall env → EnumerationsSmall known
    specs_small (specs f h g none) e = specifier_small h e

    member_list_small : {env known : Known} {os : List Lexeme} {ms : List MemberTree} → IsMemberList earlier env os ms known → EnumerationsSmall env → EnumerationsSmall known
    member_list_small (member_list o m opens h differ closes) e = members_small h e

    members_small : {env known : Known} {os : List Lexeme} {ms : List MemberTree} → AreMembers earlier env os ms known → EnumerationsSmall env → EnumerationsSmall known
    members_small (first_members h) e = member_line_small h e
    members_small (also_members f h) e = member_line_small h (members_small f e)

    member_line_small : {env known : Known} {os : List Lexeme} {ms : List MemberTree} → IsMemberLine earlier env os ms known → EnumerationsSmall env → EnumerationsSmall known
    member_line_small (member_line o h stored attributed names ends) e = specs_small h e

  param_small : {env known : Known} {os : List Lexeme} {q : ParamTree} {z : List ℕ} → IsParam earlier env os q z known → EnumerationsSmall env → EnumerationsSmall known
  param_small (param_alone h attributed stars size low) e = specs_small h e
  param_small (param_named o n h attributed stars name no_type size low) e = specs_small h e

  params_small : {env known : Known} {os : List Lexeme} {qs : List ParamTree} {z : List ℕ} → AreParams earlier env os qs z known → EnumerationsSmall env → EnumerationsSmall known
  params_small (first_param h) e = param_small h e
  params_small (also_param o f comma h) e = param_small h (params_small f e)

  param_list_small : {env known : Known} {os : List Lexeme} {qs : List ParamTree} → IsParamList earlier env os qs known → EnumerationsSmall env → EnumerationsSmall known
  param_list_small no_param e = e
  param_list_small (void_param o word) e = e
  param_list_small (params h alone outside) e = params_small h e

  pub function_small : {env known : Known} {t : TypeTree} {os : List Lexeme} {o : Lexeme} {f : SignatureTree} → IsFunction earlier env t os o f known → EnumerationsSmall env → EnumerationsSmall known
  function_small (function_of o m c n stars low name opens h closes after) e = param_list_small h e

declarator_small : {earlier : List DeclTree} {env known : Known} {t : TypeTree} {z : Bool} {os : List Lexeme} {d : DeclTree} → IsInitDeclarator earlier env t z os d known → EnumerationsSmall env → EnumerationsSmall known × DeclSmall d
declarator_small (type_declared h may) e = (e, tt)
declarator_small (object_declared h may) e = (e, tt)
declarator_small (object_initialised m h may is x low constant) e = (e, tt)
declarator_small {earlier = earlier} (function_declared h may) e = (function_small earlier h e, tt)

declarators_small : {earlier : List DeclTree} {env : Known} {t : TypeTree} {z : Bool} {os : List Lexeme} {ds : List DeclTree} {known : Known} → AreInitDeclarators earlier env t z os ds known → EnumerationsSmall env → EnumerationsSmall known × All DeclSmall ds
declarators_small (first_declarator {d = d} h) e = let r = declarator_small h e in (r.0, All-cons DeclSmall d [] r.1 (All-nil DeclSmall))
declarators_small (also_declarator {ds = ds} {d = d} o f comma h) e =
    let r = declarators_small f e in let v = declarator_small h r.0 in (v.0, All-append DeclSmall ds (d ∷ []) r.1 (All-cons DeclSmall d [] v.1 (All-nil DeclSmall)))

pub declaration_small : {earlier : List DeclTree} {env : Known} {os : List Lexeme} {ds : List DeclTree} {known : Known} → IsDeclaration earlier env os ds known → EnumerationsSmall env → EnumerationsSmall known × All DeclSmall ds
declaration_small {earlier = earlier} (declares_types o h attributed ends) e = (specs_small earlier h e, All-cons DeclSmall types [] tt (All-nil DeclSmall))
declaration_small {earlier = earlier} (declares o h f attributed ends) e = declarators_small f (specs_small earlier h e)
