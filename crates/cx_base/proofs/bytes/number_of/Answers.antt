use Rattle.std.proofs.Common.{◌<◌, arith}
use Rattle.cx_base.proofs.Digits.{pow_fits}
use Rattle.cx_base.proofs.bytes.number_of.Goals as goal

pub overflow_mul-n : goal.overflow_mul-n
overflow_mul-n c =
    let few : c.loop-i.i < 8 = omega arith in let p = pow_fits c.loop-i.i few in omega (arith, p)

pub overflow_add-n : goal.overflow_add-n
overflow_add-n c =
    let few : c.loop-i.i < 8 = omega arith in let p = pow_fits c.loop-i.i few in omega (arith, p)
