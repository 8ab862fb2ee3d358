pub mod UnionDeltas
pub mod DeltaTuples
pub mod MemberDeltas
pub mod DeltaLines
