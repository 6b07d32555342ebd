use Rattle.study_index.proofs.LeadLaws.{led_whole}
use Rattle.study_index.proofs.leads.led.Goals as goal

-- A value that is no name keeps its case.
pub returns-else-tag-eq-PATIENT_NAME : goal.returns-else-tag-eq-PATIENT_NAME
returns-else-tag-eq-PATIENT_NAME c = led_whole c.args.tag c.args.value.now c.cut-text.result c.cut-text.ensures
    c.if-tag-eq-PATIENT_NAME.false
