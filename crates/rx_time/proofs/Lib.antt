mod MomentRows
