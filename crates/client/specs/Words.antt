-- Why nothing was published, in words.
use Rattle.std.specs.Prelude.{ℕ, List, codes}
use Rattle.store.specs.Reasons.{reason_of}
use Rattle.client.specs.declared.DeepFault.{DeepFault}
use Rattle.client.specs.declared.DeepFault.TheVariants.{NoMemory, Refused}

abbrev pub deep_reason : DeepFault → List ℕ
deep_reason NoMemory = codes "memory allocation failed"
deep_reason (Refused fault) = reason_of fault
