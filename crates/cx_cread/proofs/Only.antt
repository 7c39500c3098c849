-- A text has one unit.
use Rattle.std.proofs.Common.{◌≡◌, ℕ, ◌+◌, ◌^◌, ◌≤◌, List, [], ◌∷◌, ◌++◌, length, refl, sym, ap, ◌∙◌, subst, arith}
use Rattle.std.proofs.lemmas.List.{length-map}
use Rattle.cx_base.specs.declared.token.Token.{Token}
use Rattle.cx_ctree.specs.Decls.{DeclTree, ItemTree, known, passed}
use Rattle.cx_ctree.specs.Units.{UnitTree}
use Rattle.cx_cword.specs.declared.lexeme.Lexeme.{Lexeme}
use Rattle.cx_cword.specs.Reading.{span_of}
use Rattle.cx_cword.specs.Lexemes.{lexeme_of, lexemes}
use Rattle.cx_cname.specs.Known.{Known}
use Rattle.cx_citem.specs.Items.{items_of}
use Rattle.cx_cread.specs.Reads.{AreItems, no_items, known_item, passed_item, named_by, nothing_known, known_after, Reads, ReadsOnly}
use Rattle.cx_cdecl.proofs.Grows.{Grows}
use Rattle.cx_cread.proofs.Totals.{total, total_items}
use Rattle.cx_cread.proofs.Once.{Holds, item_only, item_grows}

-- room for the tags of all items
record HoldsAll (env : Known) (rest : List (List Lexeme)) : Type 0 where
  few : length env.tags + total rest ≤ 2 ^ 24

holds_first : (env : Known) (os : List Lexeme) (rest : List (List Lexeme)) → HoldsAll env (os ∷ rest) → Holds env os
holds_first env os rest h = record { few = let e = h.few in omega (arith, e) }

holds_passed : (env : Known) (os : List Lexeme) (rest : List (List Lexeme)) → HoldsAll env (os ∷ rest) → HoldsAll env rest
holds_passed env os rest h = record { few = let e = h.few in omega (arith, e) }

holds_known : (env later : Known) (os : List Lexeme) (rest : List (List Lexeme)) → HoldsAll env (os ∷ rest) → Grows env later (length os) → HoldsAll later rest
holds_known env later os rest h g = record { few = let e = h.few in let f = g.tags in omega (arith, e, f) }

are_only : {earlier : List DeclTree} {env last end : Known} {rest : List (List Lexeme)} {items more : List ItemTree} → HoldsAll env rest → AreItems earlier env rest items last → AreItems earlier env rest more end → (items ≡ more) × (last ≡ end)
are_only room no_items no_items = (refl, refl)
are_only {earlier = earlier} {env = env} {last = last} {end = end} room (known_item {ds = ds} {later = later} {os = os} {rest = rest} i a) (known_item {ds = es} {items = more} j b) =
    let one = item_only (holds_first env os rest room) i j in
    let same = subst (λ (p : List DeclTree × Known). AreItems (earlier ++ p.0) p.1 rest more end) (λ k. (sym one.0 k, sym one.1 k)) b in
    let next = are_only (holds_known env later os rest room (item_grows i)) a same in
    (λ k. known (one.0 k) ∷ next.0 k, next.1)
are_only room (known_item {ds = ds} {later = now} i a) (passed_item none b) = absurd (none ds now i)
are_only room (passed_item none a) (known_item {ds = ds} {later = now} i b) = absurd (none ds now i)
are_only {env = env} room (passed_item {os = os} {rest = rest} none a) (passed_item other b) =
    let next = are_only (holds_passed env os rest room) a b in
    (ap (λ (l : List ItemTree). passed (span_of os) ∷ l) next.0, next.1)

holds_unit : (names : List (List ℕ)) (bytes : List ℕ) (tokens : List Token) → length tokens ≤ 2 ^ 24 → HoldsAll nothing_known (items_of (lexemes names bytes tokens))
holds_unit names bytes tokens few = record { few = let e = total_items (lexemes names bytes tokens) in let f = length-map tokens (lexeme_of names bytes) in omega (arith, few, e, f) }

pub reads_only : (bytes : List ℕ) (tokens : List Token) (u : UnitTree) → length tokens ≤ 2 ^ 24 → Reads bytes tokens u → ReadsOnly bytes tokens u
reads_only bytes tokens u few r = record {
  reads = r;
  only = λ v s.
      let names : v.names ≡ u.names = s.names ∙ sym r.names in
      let all = subst (λ (ns : List (List ℕ)). AreItems [] nothing_known (items_of (lexemes ns bytes tokens)) v.items (known_after v)) names s.items in
      let one = are_only (holds_unit u.names bytes tokens few) all r.items in
      let named : v.named ≡ u.named = s.named ∙ subst (λ (p : List (List ℕ) × List ItemTree). named_by v.names bytes (items_of (lexemes v.names bytes tokens)) v.items ≡ named_by p.0 bytes (items_of (lexemes p.0 bytes tokens)) p.1) (λ k. (names k, one.0 k)) refl ∙ sym r.named in
      let tokens_are : v.tokens ≡ u.tokens = s.tokens_are ∙ sym r.tokens_are in
      λ k. record {
        names = names k;
        tags = (one.1 k).tags;
        typedefs = (one.1 k).typedefs;
        consts = (one.1 k).consts;
        enums = (one.1 k).enums;
        items = one.0 k;
        tokens = tokens_are k;
        named = named k;
      };
}
