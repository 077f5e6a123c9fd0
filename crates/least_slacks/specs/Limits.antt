-- The mill whose slabs these are.
use Rattle.mill_model.specs.Slab.{Mill}
use Rattle.least_slacks.specs.declared.limits.SlabLimits.{SlabLimits}

abbrev pub mill_within : SlabLimits → Mill
mill_within limits = record { largest = limits.largest; most_colours = limits.most }
