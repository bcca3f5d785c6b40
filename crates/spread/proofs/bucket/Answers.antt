use Rattle.spread.proofs.Mixing.{bucket_is}
use Rattle.spread.proofs.bucket.Goals as goal

pub returns : goal.returns
returns c = (bucket_is c.args.t.now c.args.buckets c.args.salt c.min.ensures c.mix_text.ensures.0 c.scale.ensures.0, c.scale.ensures.1)
