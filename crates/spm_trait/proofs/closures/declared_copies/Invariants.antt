use Rattle.std.proofs.Common.{◌≡◌, ◌++◌}
use Rattle.spm_trait.specs.Reached.{AreDeclared, names_in, names_of}
use Rattle.spm_trait.proofs.closures.declared_copies.Given as goal

-- the names so far are declared, and the others are left
abbrev pub invariant-loop-name : goal.invariant-loop-name
invariant-loop-name l = record {
  names : l.copies.items ++ names_of l.name-iterator ≡ names_in l.names;
  declared : AreDeclared l.index l.copies.items;
}
