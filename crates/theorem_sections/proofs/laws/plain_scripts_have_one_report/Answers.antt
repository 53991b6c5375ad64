use Rattle.theorem_sections.proofs.PlainScripts.{has_report, is_report}
use Rattle.theorem_sections.proofs.laws.plain_scripts_have_one_report.Goals as goal

pub returns : goal.returns
returns g c = λ D value_text answers members keys steps text.
    (is_report D value_text answers members keys steps text, has_report D value_text answers members keys steps text)
