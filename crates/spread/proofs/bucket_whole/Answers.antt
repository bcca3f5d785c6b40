use Rattle.spread.proofs.Mixing.{whole_bucket_is}
use Rattle.spread.proofs.bucket_whole.Goals as goal

pub returns : goal.returns
returns c = (whole_bucket_is c.args.t.now c.args.buckets c.args.salt c.mix_text.ensures.0 c.scale.ensures.0, c.scale.ensures.1)
