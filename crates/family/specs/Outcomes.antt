-- What the answers of the code say.
use Rattle.std.specs.Prelude.{ℕ, Ok, Err, Result}
use Rattle.figures.specs.declared.mix.Mix.{Mix}
use Rattle.mesh.specs.Refusals.{place_refusal}
use Rattle.mesh.specs.declared.fault.PlaceFault.{PlaceFault}
use Rattle.family.specs.declared.call.Reply.{Reply}
use Rattle.family.specs.declared.call.Reply.TheVariants.{Done, Placed, Mixed}
use Rattle.family.specs.declared.fault.CallFault.{CallFault}
use Rattle.family.specs.declared.fault.LoadFault.{LoadFault}
use Rattle.family.specs.declared.fault.QuestionFault.{QuestionFault}
use Rattle.family.specs.Calls.{Outcome, done, placed, mixed, refused}
use Rattle.family.specs.Mixes.{mixture}
use Rattle.family.specs.Refusals.{load_refusal, question_refusal, call_refusal}

abbrev pub place_outcome : Result ℕ PlaceFault → Outcome
place_outcome (Ok n) = placed n
place_outcome (Err e) = refused (place_refusal e)

abbrev pub load_outcome : {X : Type 0} → Result X LoadFault → Outcome
load_outcome (Ok x) = done
load_outcome (Err e) = refused (load_refusal e)

abbrev pub question_outcome : Result Mix QuestionFault → Outcome
question_outcome (Ok x) = mixed (mixture x)
question_outcome (Err e) = refused (question_refusal e)

-- What a call of the code answers.
abbrev pub CallAnswer : Type 0
CallAnswer = Result Reply CallFault

-- What a reply says, and what an answer does.
abbrev pub reply_outcome : Reply → Outcome
reply_outcome Done = done
reply_outcome (Placed n) = placed n
reply_outcome (Mixed x) = mixed (mixture x)

abbrev pub answer_outcome : CallAnswer → Outcome
answer_outcome (Ok reply) = reply_outcome reply
answer_outcome (Err e) = refused (call_refusal e)
