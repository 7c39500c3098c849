use Rattle.std.proofs.Common.{◌≡◌, List, true, map, ap, ◌∙◌, sym, refl}
use Rattle.cx_ctree.specs.Decls.{TagTree, tag_tree, member_tree}
use Rattle.cx_ctree.specs.declared.decl.Member.{Member}
use Rattle.cx_ctree.specs.Units.{tags_of}
use Rattle.cx_cname.specs.Known.{known_of}
use Rattle.cx_cname.specs.Meanings.{may_have}
use Rattle.std.specs.Prelude.{slice_set}
use Rattle.std.proofs.lemmas.List.{map-set}
use Rattle.cx_cname.proofs.Undoing.{past_members}
use Rattle.cx_cname.proofs.Ranks.{ranked_members, ranked_next, undeclared, nowhere, somewhere}
use Rattle.cx_cname.proofs.Measures.{measured_members, own_extent}
use Rattle.cx_cname.proofs.journal.set_members.Goals as goal

pub returns-in-None-clause-ok : goal.returns-in-None-clause-ok
returns-in-None-clause-ok c = nowhere c.args.known.now c.args.at _ _ _ (sym c.in-None.ensures)

pub set-requires : goal.set-requires
set-requires c = somewhere c.args.known.now.tags c.args.at _ (sym c.in-Some-get.ensures)

pub invariant_of-known : goal.invariant_of-known
invariant_of-known c =
    let allowed : may_have (known_of c.args.known.now) c.args.at (map member_tree c.args.members) ≡ true = sym (c.if-not-may_have.ensures ∙ ap (λ (ms : List Member). may_have (known_of c.args.known.now) c.args.at (map member_tree ms)) c.as_slice.ensures) in
    let tree = ranked_next c.args.known.now _ c.args.name c.args.union_ _ _ c.args.members c.extent_with-extent.result c.in-Some.ensures.1 c.greatest_rank.ensures c.as_slice-2.ensures in
    record {
      ranked = rw c.set.ensures.new (ranked_members c.args.known.now c.args.at _ _ allowed tree);
      measured = rw c.set.ensures.new (measured_members c.args.known.now c.args.at _ c.in-Some-get.tag.now c.args.members allowed (sym c.in-Some-get.ensures) tree refl
          (own_extent _ c.args.at _ c.args.union_ c.args.members _ c.extent_with-extent.result c.in-Ok.ensures.1 c.as_slice-3.ensures c.extent_with-extent.ensures));
    }

pub returns-clause-ok : goal.returns-clause-ok
returns-clause-ok c =
    let tree = ranked_next c.args.known.now _ c.args.name c.args.union_ _ _ c.args.members c.extent_with-extent.result c.in-Some.ensures.1 c.greatest_rank.ensures c.as_slice-2.ensures in
    ap (λ (tags : List TagTree). record (known_of c.args.known.now) { tags = tags }) (ap (map tag_tree) c.set.ensures.new ∙ map-set tag_tree c.args.known.now.tags c.args.at _ ∙ ap (λ (t : TagTree). slice_set (tags_of c.args.known.now) c.args.at t) tree)

pub returns-clause-kept : goal.returns-clause-kept
returns-clause-kept c =
    let allowed : may_have (known_of c.args.known.now) c.args.at (map member_tree c.args.members) ≡ true = sym (c.if-not-may_have.ensures ∙ ap (λ (ms : List Member). may_have (known_of c.args.known.now) c.args.at (map member_tree ms)) c.as_slice.ensures) in
    past_members c.args.changes.now _ c.args.known.now _ c.args.at c.in-Some-get.tag.now _ c.in_ok-push.ensures.ok (sym c.in-Some-get.ensures) (undeclared c.args.known.now c.args.at (map member_tree c.args.members) _ allowed (sym c.in-Some-get.ensures)) c.set.ensures.new refl
