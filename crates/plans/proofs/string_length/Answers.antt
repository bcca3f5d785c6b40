use Rattle.std.proofs.Common.{◌≡◌, arith, ap, refl, sym, ◌∙◌}
use Rattle.plans.specs.Forms.{byte_of}
use Rattle.plans.specs.Plans.{form_at}
use Rattle.plans.proofs.Costing.{takes_regular, takes_recorded, takes_recalled}
use Rattle.plans.proofs.string_length.Goals as goal

pub returns-in-Ok-Regular : goal.returns-in-Ok-Regular
returns-in-Ok-Regular c = takes_regular _ _ _ _ _ c.text_of-t.ensures refl c.requires.2 (sym c.in-Ok-Regular.ensures ∙ ap byte_of c.in-Ok-Regular.field-0-is)

pub returns-in-Ok-Recorded : goal.returns-in-Ok-Recorded
returns-in-Ok-Recorded c = takes_recorded _ _ _ _ _ c.text_of-t.ensures refl c.requires.2 (sym c.in-Ok-Recorded.ensures ∙ ap byte_of c.in-Ok-Recorded.field-0-is)

pub returns-in-Ok-Recalled : goal.returns-in-Ok-Recalled
returns-in-Ok-Recalled c =
    let q : form_at c.args.plan.now c.args.j ≡ 2 = sym c.in-Ok-Recalled.ensures ∙ ap byte_of c.in-Ok-Recalled.field-0-is in
    takes_recalled _ _ _ _ _ c.text_of-t.ensures refl c.requires.2 (λ e. omega arith) (λ e. omega arith)

pub returns-in-Err : goal.returns-in-Err
returns-in-Err c =
    takes_recalled _ _ _ _ _ c.text_of-t.ensures refl c.requires.2 (λ e. omega (arith, c.in-Err.ensures)) (λ e. omega (arith, c.in-Err.ensures))
