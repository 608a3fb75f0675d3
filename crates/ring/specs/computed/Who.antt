-- The two cores, as the code names them. Not needed to believe any promise.
use Rattle.std.specs.Prelude.{cond, ℕ, eqb}
use Rattle.ring.specs.declared.who.Who.{Who}
use Rattle.ring.specs.declared.who.Who.TheVariants.{Producer, Consumer}

-- The core that a core byte names, where it names one.
abbrev pub who_of : (core : ℕ) → Who
who_of core = cond (eqb core 0) Producer Consumer

-- A core's place among the two.
abbrev pub core_place : Who → ℕ
core_place Producer = 0
core_place Consumer = 1

-- The first for the producer, the second for the consumer.
abbrev pub chosen : {A : Type 0} → Who → A → A → A
chosen Producer a b = a
chosen Consumer a b = b
