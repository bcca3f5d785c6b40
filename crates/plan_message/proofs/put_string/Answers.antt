use Rattle.std.proofs.Common.{◌≡◌, rules, arith, ap, refl, sym, ◌∙◌}
use Rattle.plans.specs.Forms.{byte_of}
use Rattle.plans.specs.Plans.{form_at}
use Rattle.plan_message.proofs.Sending.{regular_put, recorded_put, recalled_put}
use Rattle.plan_message.proofs.put_string.Goals as goal

pub returns-in-Ok-Regular : goal.returns-in-Ok-Regular
returns-in-Ok-Regular c =
    regular_put _ _ _ _ _ c.text_of-t.ensures refl c.requires.3 (sym c.in-Ok-Regular.ensures ∙ ap byte_of c.in-Ok-Regular.field-0-is) (search rules)

pub returns-in-Ok-Recorded : goal.returns-in-Ok-Recorded
returns-in-Ok-Recorded c =
    recorded_put _ _ _ _ _ c.text_of-t.ensures refl c.requires.3 (sym c.in-Ok-Recorded.ensures ∙ ap byte_of c.in-Ok-Recorded.field-0-is) (search rules)

pub returns-in-Ok-Recalled : goal.returns-in-Ok-Recalled
returns-in-Ok-Recalled c =
    let q : form_at c.args.plan.now c.args.j ≡ 2 = sym c.in-Ok-Recalled.ensures ∙ ap byte_of c.in-Ok-Recalled.field-0-is in
    recalled_put _ _ _ _ _ c.text_of-t.ensures refl c.requires.3 (λ e. omega arith) (λ e. omega arith) (search rules)

pub returns-in-Err : goal.returns-in-Err
returns-in-Err c =
    recalled_put _ _ _ _ _ c.text_of-t.ensures refl c.requires.3 (λ e. omega (arith, c.in-Err.ensures)) (λ e. omega (arith, c.in-Err.ensures)) (search rules)
