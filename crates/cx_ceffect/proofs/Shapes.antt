-- What a lexeme is that is taken at a place of an effect.
use Rattle.std.proofs.Common.{◌≡◌, true, Some, refl, ap}
use Rattle.cx_ctree.specs.declared.expr.Binary.{Binary}
use Rattle.cx_ctree.specs.declared.expr.Binary.TheVariants as b
use Rattle.cx_cword.specs.declared.word.Punctuator.{Punctuator}
use Rattle.cx_cword.specs.declared.word.Punctuator.TheVariants as p
use Rattle.cx_cword.specs.declared.lexeme.LexemeKind.{LexemeKind}
use Rattle.cx_cword.specs.declared.lexeme.LexemeKind.TheVariants as l
use Rattle.cx_cword.specs.declared.mark.Mark.TheVariants as m
use Rattle.cx_ceffect.specs.declared.kinds.After.TheVariants as after
use Rattle.cx_ceffect.specs.declared.kinds.Separator.TheVariants as s
use Rattle.cx_ceffect.specs.Effects.{assigned_by, stepped_by}
use Rattle.cx_ceffect.specs.Kinds.{after_mark, after_of, step_of, separator_of}
use Rattle.cx_cword.specs.Marks.{fits}

pub separator_comma : (kind : LexemeKind) → separator_of kind ≡ s.Comma → kind ≡ l.Punctuator p.Comma
separator_comma (l.Punctuator p.Comma) e = refl
separator_comma (l.Punctuator p.CloseParen) e = absurd cc
separator_comma _ e = absurd cc

pub separator_close : (kind : LexemeKind) → separator_of kind ≡ s.Close → kind ≡ l.Punctuator p.CloseParen
separator_close (l.Punctuator p.CloseParen) e = refl
separator_close (l.Punctuator p.Comma) e = absurd cc
separator_close _ e = absurd cc

pub step_is : (kind : LexemeKind) (op : Binary) → step_of kind ≡ Some op → (mark : Punctuator) × (kind ≡ l.Punctuator mark) × (stepped_by mark ≡ Some op)
step_is (l.Punctuator mark) op e = (mark, refl, e)
step_is _ op e = absurd cc

assign_mark : (mark : Punctuator) → after_mark mark ≡ after.Assign → mark ≡ p.Assign
assign_mark p.Assign e = refl
assign_mark p.MulAssign e = absurd cc
assign_mark p.DivAssign e = absurd cc
assign_mark p.RemAssign e = absurd cc
assign_mark p.AddAssign e = absurd cc
assign_mark p.SubAssign e = absurd cc
assign_mark p.ShlAssign e = absurd cc
assign_mark p.ShrAssign e = absurd cc
assign_mark p.AndAssign e = absurd cc
assign_mark p.XorAssign e = absurd cc
assign_mark p.OrAssign e = absurd cc
assign_mark p.Increment e = absurd cc
assign_mark p.Decrement e = absurd cc
assign_mark _ e = absurd cc

pub after_assign : (kind : LexemeKind) → after_of kind ≡ after.Assign → kind ≡ l.Punctuator p.Assign
after_assign (l.Punctuator mark) e = ap l.Punctuator (assign_mark mark e)
after_assign _ e = absurd cc

update_same : (a c : Binary) → after.Update a ≡ after.Update c → Some a ≡ Some c
update_same a c e = cc

update_mark : (mark : Punctuator) (op : Binary) → after_mark mark ≡ after.Update op → assigned_by mark ≡ Some op
update_mark p.MulAssign op e = update_same b.Mul op e
update_mark p.DivAssign op e = update_same b.Div op e
update_mark p.RemAssign op e = update_same b.Rem op e
update_mark p.AddAssign op e = update_same b.Add op e
update_mark p.SubAssign op e = update_same b.Sub op e
update_mark p.ShlAssign op e = update_same b.Shl op e
update_mark p.ShrAssign op e = update_same b.Shr op e
update_mark p.AndAssign op e = update_same b.BitAnd op e
update_mark p.XorAssign op e = update_same b.BitXor op e
update_mark p.OrAssign op e = update_same b.BitOr op e
update_mark p.Assign op e = absurd cc
update_mark p.Increment op e = absurd cc
update_mark p.Decrement op e = absurd cc
update_mark _ op e = absurd cc

pub after_update : (kind : LexemeKind) (op : Binary) → after_of kind ≡ after.Update op → (mark : Punctuator) × (kind ≡ l.Punctuator mark) × (assigned_by mark ≡ Some op)
after_update (l.Punctuator mark) op e = (mark, refl, update_mark mark op e)
after_update _ op e = absurd cc

step_same : (a c : Binary) → after.Step a ≡ after.Step c → Some a ≡ Some c
step_same a c e = cc

step_mark : (mark : Punctuator) (op : Binary) → after_mark mark ≡ after.Step op → stepped_by mark ≡ Some op
step_mark p.Increment op e = step_same b.Add op e
step_mark p.Decrement op e = step_same b.Sub op e
step_mark p.Assign op e = absurd cc
step_mark p.MulAssign op e = absurd cc
step_mark p.DivAssign op e = absurd cc
step_mark p.RemAssign op e = absurd cc
step_mark p.AddAssign op e = absurd cc
step_mark p.SubAssign op e = absurd cc
step_mark p.ShlAssign op e = absurd cc
step_mark p.ShrAssign op e = absurd cc
step_mark p.AndAssign op e = absurd cc
step_mark p.XorAssign op e = absurd cc
step_mark p.OrAssign op e = absurd cc
step_mark _ op e = absurd cc

pub after_step : (kind : LexemeKind) (op : Binary) → after_of kind ≡ after.Step op → (mark : Punctuator) × (kind ≡ l.Punctuator mark) × (stepped_by mark ≡ Some op)
after_step (l.Punctuator mark) op e = (mark, refl, step_mark mark op e)
after_step _ op e = absurd cc
