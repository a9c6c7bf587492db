-- More of numbers as keys: the class of every number, and the largest lawful number.
use Rattle.std.specs.Prelude.{◌≡◌, ◌<◌, ◌≤◌, true}
use Rattle.std.proofs.Common.{rules}
use Rattle.keys.specs.Numbers.{lawful_number, number_class}
use Rattle.keys.specs.declared.number.Number.{Number}

pub number_class_below : (n : Number) → number_class n < 8
number_class_below n = search rules

number_most : (n : Number) → lawful_number n ≡ true → n ≤ 65535
number_most n l = search rules
