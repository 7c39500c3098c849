use Rattle.std.proofs.Common.{refl}
use Rattle.cx_cname.proofs.Measures.{ranked_push, measured_push}
use Rattle.cx_cname.proofs.journal.add_tag.Goals as goal

pub invariant_of-known : goal.invariant_of-known
invariant_of-known c = record {
  ranked = ranked_push c.args.known.now.tags _ _ c.push-2.result c.push-2.ensures.ok c.push-2.ensures.err c.args.known.now.ranked refl refl;
  measured = measured_push c.args.known.now.tags _ _ c.nothing.result c.push-2.result c.push-2.ensures.ok c.push-2.ensures.err c.args.known.now.ranked c.args.known.now.measured refl refl refl c.nothing.ensures.size c.nothing.ensures.align;
}
