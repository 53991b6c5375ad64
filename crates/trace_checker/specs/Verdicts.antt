-- What a verdict of the program is in the model.
use Rattle.model_traces.specs.Traces as model
use Rattle.trace_checker.specs.declared.checking.Verdict.{Verdict}
use Rattle.trace_checker.specs.declared.checking.Verdict.TheVariants.{Lawful, Broken}

abbrev pub verdict_meant : Verdict → model.Verdict
verdict_meant Lawful = model.Verdict.Lawful
verdict_meant (Broken line rule) = model.Verdict.Broken line rule
