use Rattle.model_meanings.proofs.PrunesShowAlike.{total_alike, elements_alike, text_alike, live_alike}
use Rattle.model_meanings.proofs.Operations.{operation_alike}
use Rattle.model_meanings.proofs.laws.prunes_mean_nothing_new.Goals as goal

pub returns-clause-total : goal.returns-clause-total
returns-clause-total g c = λ amount H owner removed small. total_alike H owner removed small amount

pub returns-clause-elements : goal.returns-clause-elements
returns-clause-elements g c = λ added H owner removed small. elements_alike H owner removed small added

pub returns-clause-operation : goal.returns-clause-operation
returns-clause-operation g c = operation_alike

pub returns-clause-text : goal.returns-clause-text
returns-clause-text g c = λ assigned H owner removed small history. text_alike H owner removed small history assigned

pub returns-clause-live : goal.returns-clause-live
returns-clause-live g c = λ operations H owner removed small history. live_alike H owner removed small history operations
